-- What comes next in a script.
use Rattle.std.specs.Prelude.{ℕ, ◌<◌, ◌≤◌, List, IfSome}
use Rattle.std.specs.declared.option.Option.{Option}
use Rattle.std.specs.Io.KnownBytes.{Consumes}
use Rattle.tool_script.specs.Request.{PlainRequest, spelled, text_size, IsRequest}
use Rattle.tool_script.specs.Request.PlainRequest.{Update, Svid, Bundle}
use Rattle.tool_script.specs.Script.{EndsAs}
use Rattle.tool_script.specs.declared.request.Request.{Request}
use Rattle.tool_script.specs.declared.request.Request.TheVariants as code
use Rattle.tool_script.specs.declared.request.Next.{Next}
use Rattle.tool_script.specs.declared.request.Next.TheVariants as next

-- the request that the code holds, where a trust domain was asked for by this name
abbrev pub meaning : List ℕ → Request → PlainRequest
meaning name (code.Update text) = Update text.items
meaning name code.Svid = Svid
meaning name (code.Bundle domain) = Bundle name domain

-- behind so many requests, and where the next update may have so many bytes, a request was taken, or the script ends so
abbrev pub IsNext : ℕ → ℕ → Option (List ℕ) → Option (List ℕ) → Next → Type 0
IsNext count most old new (next.Request request) = (name : List ℕ) × Consumes old new (spelled (meaning name request)) × IsRequest (meaning name request)
    × (count < 10000)
    × (text_size (meaning name request) ≤ most)
IsNext count most old new (next.End ending) = IfSome old (λ bytes. EndsAs count most bytes ending)
