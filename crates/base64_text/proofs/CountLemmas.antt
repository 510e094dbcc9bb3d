-- How many conversions a decoding makes.
use Rattle.std.proofs.Common.{◌≡◌, ◌≢◌, ℕ, zero, suc, ◌+◌, ◌%◌, ◌<◌, ◌≤◌, Bool, true, false, not, ◌&&◌, ◌||◌, ◌==◌, ◌↔◌, List, length, nat_le, arith, refl}
use Rattle.std.proofs.Common.{◌∙◌, if◌then◌else◌, inl, inr}
use Rattle.std.proofs.lemmas.Bool.{cases_eq, eq-eqb, ne_eqb, le-leb, lt-leb, and_right}
use Rattle.base64_text.specs.Canonical.{HasWholeBlocks, decoded_len, unpadded_len, is_clean, has_lengths}
use Rattle.base64_text.specs.Counts.{loose_count, encode_count, decode_count}

-- the tests of lengths
whole_test : (padded : Bool) (n : ℕ) → (padded ≡ true → n % 4 ≡ 0) → (not padded || (n % 4 == 0)) ≡ true
whole_test false n h = refl
whole_test true n h = rw (h refl) refl

pub lengths_hold : (padded : Bool) (t : List ℕ) (space : ℕ) → HasWholeBlocks padded t → decoded_len (unpadded_len padded t) ≤ space
    → has_lengths padded t space ≡ true
lengths_hold padded t space whole room = rw (whole_test padded (length t) whole, le-leb (decoded_len (unpadded_len padded t)) space room) refl

pub no_whole_blocks : (padded : Bool) (t : List ℕ) (space : ℕ) → padded ≡ true → length t % 4 ≢ 0 → has_lengths padded t space ≡ false
no_whole_blocks padded t space is ne = rw (is, ne_eqb (length t % 4) 0 ne) refl

pub no_room : (padded : Bool) (t : List ℕ) (space : ℕ) → space < decoded_len (unpadded_len padded t) → has_lengths padded t space ≡ false
no_room padded t space short = and_right (not padded || (length t % 4 == 0)) (nat_le (decoded_len (unpadded_len padded t)) space)
    (lt-leb (decoded_len (unpadded_len padded t)) space short)

-- the counts
pub count_unclean : (table : List ℕ) (padded : Bool) (t : List ℕ) → is_clean table padded t ≡ false
    → decode_count table padded t ≡ loose_count (unpadded_len padded t)
count_unclean table padded t bad = rw bad (omega arith)

pub count_empty : (table : List ℕ) (padded : Bool) (t : List ℕ) → length t ≡ 0 → decode_count table padded t ≡ loose_count (unpadded_len padded t)
count_empty table padded t none =
    let e : (is_clean table padded t && not (length t == 0)) ≡ false = and_right (is_clean table padded t) (not (length t == 0)) (rw none refl) in
    rw e (omega arith)

last_padded : (k : ℕ) → 1 ≤ k → k ≤ 3 → encode_count true k ≡ 4
last_padded zero some few = absurd (omega arith)
last_padded (suc zero) some few = refl
last_padded (suc (suc zero)) some few = refl
last_padded (suc (suc (suc zero))) some few = refl
last_padded (suc (suc (suc (suc k)))) some few = absurd (omega arith)

last_unpadded : (k : ℕ) → 1 ≤ k → k ≤ 3 → encode_count false k ≡ (if k == 3 then 8 else 4)
last_unpadded zero some few = absurd (omega arith)
last_unpadded (suc zero) some few = refl
last_unpadded (suc (suc zero)) some few = refl
last_unpadded (suc (suc (suc zero))) some few = refl
last_unpadded (suc (suc (suc (suc k)))) some few = absurd (omega arith)

last_count : (padded : Bool) (u k : ℕ) → 1 ≤ k → k ≤ 3 → ((k ≡ 3) ↔ (u % 4 ≡ 0)) → encode_count padded k ≡ (if not padded && (u % 4 == 0) then 8 else 4)
last_count true u k some few whole = last_padded k some few
last_count false u k some few whole = last_unpadded k some few ∙ elim (cases_eq k 3) [
  | inl e ↦ rw (eq-eqb k 3 e, eq-eqb (u % 4) 0 (whole.0 e)) refl
  | inr ne ↦ rw (ne_eqb k 3 ne, ne_eqb (u % 4) 0 (λ z. ne (whole.1 z))) refl
]

pub count_clean : (table : List ℕ) (padded : Bool) (t : List ℕ) (k : ℕ) → is_clean table padded t ≡ true → (length t ≡ 0 → ⊥) → 1 ≤ k → k ≤ 3
    → ((k ≡ 3) ↔ (unpadded_len padded t % 4 ≡ 0))
    → loose_count (unpadded_len padded t) + encode_count padded k ≡ decode_count table padded t
count_clean table padded t k clean ne some few whole =
    rw (clean, ne_eqb (length t) 0 ne, last_count padded (unpadded_len padded t) k some few whole)
