-- Lengths of what is written, and a header and a content as one value.
use Rattle.std.proofs.Common.{◌≡◌, ℕ, ◌+◌, ◌^◌, ◌<◌, ◌≤◌, List, [], ◌∷◌, ◌++◌, length, Option, Result, Ok, Err, ap, sym, ◌∙◌, arith}
use Rattle.std.specs.Prelude.{MatchResult}
use Rattle.der_core.specs.declared.error.Error.{Error}
use Rattle.der_core.specs.declared.error.Error.TheVariants as error
use Rattle.der_core.specs.Der.{length_bytes, encode}
use Rattle.der_core.specs.Encode.{Wrote, LengthOf}
use Rattle.der_core.specs.Writing.{wrote_behind}
use Rattle.der_core.specs.Laws.{length_encode}
use Rattle.der_core.specs.ValueLaws.{header_length, small_fits, encode_parts}

pub too_long : (tag : ℕ) (content : List ℕ) → 4294967290 ≤ length content → 2 ^ 32 ≤ length (encode tag content)
too_long tag content h =
    let e = length_encode tag content in
    let big : 16777216 ≤ length content = omega arith in
    let five : length (length_bytes (length content)) ≡ 5 = (header_length (length content)).1 big in
    omega arith

pub encoded_len_of : (tag : ℕ) (content : List ℕ) (n : ℕ) (r : Result ℕ Error) → n ≡ length content
    → MatchResult r (λ k. (k ≡ 1 + length (length_bytes n) + n) × (n < 4294967290)) (λ e. (e ≡ error.Overlength) × (4294967290 ≤ n))
    → LengthOf (encode tag content) r
encoded_len_of tag content n (Ok k) e h =
    let len = length_encode tag content in
    let header = (header_length (length content)).0 in
    let h0 : k ≡ 1 + length (length_bytes (length content)) + length content = rw (← e) h.0 in
    let h1 : n < 4294967290 = h.1 in
    (omega arith, omega arith)
encoded_len_of tag content n (Err x) e h = let h1 : 4294967290 ≤ n = h.1 in (h.0, too_long tag content (omega arith))

-- The content alone is too long.
pub encoded_len_err : (tag : ℕ) (content : List ℕ) (r : Result ℕ Error) (e : Error) → r ≡ Err e → LengthOf content (Err e) → LengthOf (encode tag content) r
encoded_len_err tag content r e is h =
    let h1 : 2 ^ 32 ≤ length content = h.1 in
    rw is (h.0, too_long tag content (omega arith))

pub small_len : (tag : ℕ) (content : List ℕ) (n : ℕ) → n ≡ length content → n < 4294967290 → length (encode tag content) < 2 ^ 32
small_len tag content n e h = small_fits tag content (omega arith)

-- A header and then the content are the value.
pub wrote_value : {W X : Type 0} (HasTold : W → List ℕ → Type 0) (refusals : W → ℕ) (last_refusal : W → Option Error) (old mid new : W) (tag : ℕ)
    (content header : List ℕ) (r : Result X Error) → header ≡ tag ∷ [] ++ length_bytes (length content)
    → ((m : List ℕ) → HasTold old m → HasTold mid (m ++ header)) → refusals old ≤ refusals mid → length (encode tag content) < 2 ^ 32
    → Wrote HasTold refusals last_refusal mid new content r → Wrote HasTold refusals last_refusal old new (encode tag content) r
wrote_value H n last old mid new tag content header r is first count fits w =
    let parts : encode tag content ≡ header ++ content = encode_parts tag content ∙ ap (λ (x : List ℕ). x ++ content) (sym is) in
    let fits' : length (header ++ content) < 2 ^ 32 = rw (← parts) fits in
    rw parts (wrote_behind header first count w fits')
