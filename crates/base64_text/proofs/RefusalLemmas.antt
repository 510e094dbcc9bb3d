-- Why whole texts are refused.
use Rattle.std.proofs.Common.{◌≡◌, ℕ, ◌%◌, ◌≤◌, Bool, true, false, List, [], ◌∷◌, length, arith, refl, ap, inl, inr}
use Rattle.base64_alphabet.proofs.Forms.{form}
use Rattle.base64_alphabet.specs.Group.{End}
use Rattle.base64_alphabet.specs.Encoding.{encoding_of}
use Rattle.base64_text.specs.Canonical.{decoded_len, unpadded_len, IsDecodeError, IsDecodeVecError}
use Rattle.base64_text.specs.declared.errors.Error.{Error}
use Rattle.base64_text.specs.declared.errors.Error.TheVariants.{InvalidEncoding, InvalidLength, OutOfMemory}
use Rattle.base64_text.proofs.EncodingLemmas.{length-encoding_of}

-- a padded encoding has whole blocks
pub whole_blocks : (end : End) (table t b : List ℕ) → t ≡ encoding_of (form end table true) b → length t % 4 ≡ 0
whole_blocks end table t b is =
    let l = ap length is in
    let e = length-encoding_of end table b true in
    omega arith

decoded_len_le : (u n : ℕ) → u ≤ n → decoded_len u ≤ decoded_len n
decoded_len_le u n le = omega arith

unpadded_le : (padded : Bool) (t : List ℕ) → unpadded_len padded t ≤ length t
unpadded_le false t = omega arith
unpadded_le true t = omega arith

-- with room for every text of this length
pub vec_error : (end : End) (table : List ℕ) (padded : Bool) (t : List ℕ) (space : ℕ) (e : Error) → space ≡ decoded_len (length t)
    → IsDecodeError (form end table padded) t space e → IsDecodeVecError (form end table padded) t e
vec_error end table true t space InvalidEncoding is h = elim h [
  | inl p ↦ λ b bytes text. p.1 (whole_blocks end table t b text)
  | inr p ↦ p.2
]
vec_error end table false t space InvalidEncoding is h = elim h [
  | inl p ↦ absurd (let e = p.0 in cc)
  | inr p ↦ p.2
]
vec_error end table padded t space InvalidLength is h =
    let le = decoded_len_le (unpadded_len padded t) (length t) (unpadded_le padded t) in
    let lt = h.1 in
    omega arith
vec_error end table padded t space OutOfMemory is h = absurd h

pub no_text : (t : List ℕ) → length t ≡ 0 → t ≡ []
no_text [] h = refl
no_text (x ∷ t) h = absurd (omega arith)

pub no_blocks_text : (end : End) (table : List ℕ) (padded : Bool) (t b : List ℕ) → padded ≡ true → (length t % 4 ≡ 0 → ⊥)
    → t ≡ encoding_of (form end table padded) b → ⊥
no_blocks_text end table true t b is ne text = ne (whole_blocks end table t b text)
no_blocks_text end table false t b is ne text = cc
