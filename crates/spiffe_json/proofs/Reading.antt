-- What `from_slice` says, in the word `json_of`.
use Rattle.std.proofs.Common.{◌≡◌, ℕ, Bool, true, false, cond, List, Option, Some, None, Ok, IsUtf8, refl}
use Rattle.std.specs.Str.{is_utf8}
use Rattle.std.proofs.lemmas.Str.{is_utf8-from_IsUtf8, IsUtf8-from_is_utf8}
use Rattle.serde_json.specs.Data.{Data}
use Rattle.serde_json.specs.Read.{read}
use Rattle.serde_json.specs.Written.{has_float}
use Rattle.spiffe_json.specs.Json.{json_of, whole_json}

pub json_found : (bs : List ℕ) (d : Data) → IsUtf8 bs → read bs ≡ Some d → json_of bs ≡ Some d
unfolding json_of
json_found bs d text e = rw (is_utf8-from_IsUtf8 bs text) e

-- bytes that read as a value without floats
pub whole_json_found : (bs : List ℕ) (d : Data) → IsUtf8 bs → read bs ≡ Some d → has_float d ≡ false → whole_json bs ≡ Ok d
unfolding whole_json
whole_json_found bs d text e whole = rw (json_found bs d text e, whole)

unless : (b : Bool) (o : Option Data) → (b ≡ true → o ≡ None) → cond b o None ≡ None
unless true o h = h refl
unless false o h = refl

pub json_none : (bs : List ℕ) → (IsUtf8 bs → read bs ≡ None) → json_of bs ≡ None
unfolding json_of
json_none bs h = unless (is_utf8 bs) (read bs) (λ e. h (IsUtf8-from_is_utf8 bs e))
