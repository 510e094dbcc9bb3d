-- What a script asks for.
use Rattle.std.specs.Prelude.{◌≡◌, ℕ, ◌+◌, List, [], ◌∷◌, length, map, Vec, Option, IfSome, All}
use Rattle.std.specs.List.{flat_map}
use Rattle.std.specs.Global.{Global}
use Rattle.std.specs.Io.KnownBytes.{Consumes}
use Rattle.identity_io.specs.Causes.{Rose}
use Rattle.command_line.specs.declared.status.Status.{Status}
use Rattle.command_line.specs.declared.status.Status.TheVariants as status
use Rattle.tool_script.specs.Request.{PlainRequest, spelled, IsRequest}
use Rattle.tool_script.specs.Request.PlainRequest.{Update, Svid, Bundle}
use Rattle.tool_script.specs.Script.{WatchScript, text_sizes}
use Rattle.tool_script.specs.declared.request.Ending.{Ending}
use Rattle.tool_script.specs.declared.request.Ending.TheVariants.{Done, TooLong, BadScript}
use Rattle.tool_watch.specs.declared.asked.Query.{Query}
use Rattle.tool_watch.specs.declared.asked.Query.TheVariants as query

-- the updates of a script, in their order
abbrev pub updates_of : List PlainRequest → List PlainRequest
updates_of [] = []
updates_of (Update text ∷ qs) = Update text ∷ updates_of qs
updates_of (Svid ∷ qs) = updates_of qs
updates_of (Bundle name domain ∷ qs) = updates_of qs

-- its queries, in their order
abbrev pub queries_of : List PlainRequest → List Query
queries_of [] = []
queries_of (Update text ∷ qs) = queries_of qs
queries_of (Svid ∷ qs) = query.Svid ∷ queries_of qs
queries_of (Bundle name domain ∷ qs) = query.Bundle domain ∷ queries_of qs

-- the updates of these texts
abbrev pub updates_in : List (Vec ℕ Global) → List PlainRequest
updates_in texts = map (λ text. Update text.items) texts

-- the input is a script that ends with `end`, and these are its updates and its queries
abbrev pub IsAsked : Option (List ℕ) → List PlainRequest → List Query → Type 0
IsAsked left updates queries = IfSome left (λ bytes. (requests : List PlainRequest)
    × (WatchScript bytes requests Done × ((updates ≡ updates_of requests) × (queries ≡ queries_of requests))))

-- the input is a script with this ending
abbrev pub IsScript : Option (List ℕ) → Ending → Type 0
IsScript left ending = IfSome left (λ bytes. (requests : List PlainRequest) × WatchScript bytes requests ending)

-- why the script was not read to a good end
abbrev pub IsUnread : Option (List ℕ) → ℕ → ℕ → Status → Type 0
IsUnread left before now status.Done = ⊥
IsUnread left before now status.Refused = ⊥
IsUnread left before now status.Usage = ⊥
IsUnread left before now status.SourceFailed = Rose before now
IsUnread left before now status.SinkFailed = ⊥
IsUnread left before now status.OutOfMemory = Unit {0}
IsUnread left before now status.TooLong = IsScript left TooLong
IsUnread left before now status.BadScript = IsScript left BadScript

-- so far these requests were taken, and so much room is left for the next update
pub record Gathered (start now : Option (List ℕ)) (count most : ℕ) (updates : List PlainRequest) (queries : List Query) : Type 0 where
  pub requests : List PlainRequest
  pub taken : Consumes start now (flat_map spelled requests)
  pub lawful : All IsRequest requests
  pub counted : length requests ≡ count
  pub room : most + text_sizes requests ≡ 16777216
  pub updates_are : updates ≡ updates_of requests
  pub queries_are : queries ≡ queries_of requests
