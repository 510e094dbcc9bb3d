-- A script: its whole requests, and how it ends.
use Rattle.std.specs.Prelude.{◌≡◌, ◌⊎◌, ℕ, ◌+◌, ◌-◌, ◌<◌, ◌≤◌, List, [], ◌∷◌, ◌++◌, length, take, drop, slice_index, All}
use Rattle.std.specs.List.{flat_map}
use Rattle.tool_script.specs.Request.{PlainRequest, spelled, text_size, IsRequest, NoEnd}
use Rattle.tool_script.specs.Line.{Says}
use Rattle.tool_script.specs.declared.line.Form.{Form}
use Rattle.tool_script.specs.declared.line.Form.TheVariants.{Update}
use Rattle.tool_script.specs.declared.line.Line.{Line}
use Rattle.tool_script.specs.declared.line.Line.TheVariants.{End, Request, Other}
use Rattle.tool_script.specs.declared.request.Ending.{Ending}
use Rattle.tool_script.specs.declared.request.Ending.TheVariants.{Done, TooLong, BadScript}

-- the bytes begin with a line of n bytes, at most 4,096, that says this
pub record Starts (bytes : List ℕ) (n : ℕ) (says : Line) : Type 0 where
  pub fits : n < length bytes
  pub short : n ≤ 4096
  pub one : NoEnd bytes n
  pub ended : slice_index bytes n ≡ 10
  pub is : Says (take n bytes) says

-- they begin with such a line of some length
abbrev pub Begins : List ℕ → Line → Type 0
Begins bytes says = (n : ℕ) × Starts bytes n says

-- so many bytes and a line's end stand there
abbrev pub HasBlock : ℕ → List ℕ → Type 0
HasBlock size bytes = (size < length bytes) × (slice_index bytes size ≡ 10)

-- they begin with an update that may still come, and whose text doesn't follow
pub record Cut (count most : ℕ) (bytes : List ℕ) : Type 0 where
  pub few : count < 10000
  pub n : ℕ
  pub size : ℕ
  pub small : size ≤ most
  pub starts : Starts bytes n (Request (Update size))
  pub missing : HasBlock size (drop (n + 1) bytes) → ⊥

-- how a script ends whose rest is this, behind so many requests and where the next update may have so many bytes:
-- of one line its form comes first, then the number of requests, then the size of an update
abbrev pub EndsAs : ℕ → ℕ → List ℕ → Ending → Type 0
EndsAs count most bytes Done = Begins bytes End
EndsAs count most bytes TooLong = ((10000 ≤ count) × ((form : Form) × Begins bytes (Request form)))
    ⊎ ((size : ℕ) × Begins bytes (Request (Update size)) × (most < size))
EndsAs count most bytes BadScript = NoEnd bytes 4097 ⊎ (Begins bytes Other ⊎ Cut count most bytes)

-- each update has room behind the requests before it
abbrev pub HaveRoom : (List PlainRequest → ℕ) → List PlainRequest → List PlainRequest → Type 0
HaveRoom room before [] = Unit {0}
HaveRoom room before (q ∷ qs) = (text_size q ≤ room before) × HaveRoom room (before ++ q ∷ []) qs

-- these are whole requests at the front of the bytes, one behind another, where requests leave so much room for the next update
pub record FrontIn (room : List PlainRequest → ℕ) (bytes : List ℕ) (requests : List PlainRequest) : Type 0 where
  pub rest : List ℕ
  pub whole : bytes ≡ flat_map spelled requests ++ rest
  pub lawful : All IsRequest requests
  pub few : length requests ≤ 10000
  pub fit : HaveRoom room [] requests

-- the bytes as a script: its whole requests, and how it ends behind them
pub record ScriptIn (room : List PlainRequest → ℕ) (bytes : List ℕ) (requests : List PlainRequest) (ending : Ending) : Type 0 where
  pub front : FrontIn room bytes requests
  pub ends : EndsAs (length requests) (room requests) front.rest ending

-- in a session each update has room for 2^24 bytes
abbrev pub each_room : List PlainRequest → ℕ
each_room requests = 16777216

abbrev pub Front : List ℕ → List PlainRequest → Type 0
Front bytes requests = FrontIn each_room bytes requests

abbrev pub Script : List ℕ → List PlainRequest → Ending → Type 0
Script bytes requests ending = ScriptIn each_room bytes requests ending

-- how many bytes the texts of all updates have
abbrev pub text_sizes : List PlainRequest → ℕ
text_sizes [] = 0
text_sizes (q ∷ qs) = text_size q + text_sizes qs

-- under `watch` all updates have room for 2^24 bytes together
abbrev pub joint_room : List PlainRequest → ℕ
joint_room requests = 16777216 - text_sizes requests

abbrev pub WatchScript : List ℕ → List PlainRequest → Ending → Type 0
WatchScript bytes requests ending = ScriptIn joint_room bytes requests ending

-- two readings of the same bytes are one, of a session's script and of one under `watch`
abbrev pub HaveOneReading : Type 0
HaveOneReading = (room : List PlainRequest → ℕ) (bytes : List ℕ) (requests others : List PlainRequest) (ending other : Ending)
    → ScriptIn room bytes requests ending → ScriptIn room bytes others other → (requests ≡ others) × (ending ≡ other)

-- whole requests at the front of a script are the first ones that it has
abbrev pub LeadTheRequests : Type 0
LeadTheRequests = (room : List PlainRequest → ℕ) (bytes : List ℕ) (first requests : List PlainRequest) (ending : Ending)
    → FrontIn room bytes first → ScriptIn room bytes requests ending → (more : List PlainRequest) × (requests ≡ first ++ more)
