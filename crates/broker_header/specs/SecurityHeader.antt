-- What a security header answers (SPIFFE Broker Endpoint).
use Rattle.std.specs.Prelude.{◌≡◌, ℕ, List, ◌++◌, Result, Ok, Err, MatchResult, Option, Some, None, is_some, codes, if◌then◌else◌}
use Rattle.std.specs.Fn.{Shared, FnReturns}
use denote.Ref.{MutBor}
use Rattle.broker_header.specs.declared.error.Status.{Status}
use Rattle.broker_header.specs.declared.error.CallError.{CallError}
use Rattle.broker_header.specs.declared.error.CallError.TheVariants.{Refused, OutOfMemory}
use Rattle.broker_header.specs.Metadata.{Entries, with_entry}

-- a call through a `&` to f at a `&mut` to x may give r and leave x' there
pub record ReturnsAtMut {F T R : Type 0} (g : Shared F (MutBor T × Unit {0}) (R × (MutBor T × Unit {0}))) (f : F) (x : T) (r : R) (x' : T) : Type 0 where
  pub shown : MutBor T
  pub shows : shown.now ≡ x
  pub left : MutBor T
  pub says : FnReturns g f (shown, tt) (r, (left, tt))
  pub leaves : left.now ≡ x'

-- metadata with the header `broker.spiffe.io: true`
abbrev pub with_security_header : Entries → Entries
with_security_header es = with_entry es (codes "broker.spiffe.io") (codes "true")

-- what ran before the header is set: a function that may give this answer and leave this metadata, or nothing
abbrev pub Ran : {F : Type 0} → (F → Entries → Result (Unit {0}) Status → Entries → Type 0) → Option F → Entries → Result (Unit {0}) Status → Entries → Type 0
Ran intercepts None before answer left = (answer ≡ Ok tt) × (left ≡ before)
Ran intercepts (Some f) before answer left = intercepts f before answer left

-- how a call ends whose function gave this answer and left this metadata: refused with its status, or with the header
-- set, for which memory can want
abbrev pub Ends : Result (Unit {0}) Status → Entries → Result Entries CallError → Type 0
Ends (Err status) left result = result ≡ Err (Refused status)
Ends (Ok done) left result = MatchResult result (λ m. m ≡ with_security_header left) (λ e. e ≡ OutOfMemory)

abbrev pub header_debug : {F : Type 0} → Option F → List ℕ
header_debug extra = codes "SecurityHeader { extra: " ++ ((if is_some extra then codes "true" else codes "false") ++ codes " }")
