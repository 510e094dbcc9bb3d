-- The passes as data.
use Rattle.std.specs.Prelude.{ℕ, Bool, true, false, ◌&&◌, List, [], ◌∷◌, ℤ, pos, negsuc, ◌+ℤ◌, ◌-ℤ◌, int_le, slice_index}
use Rattle.std.specs.Int.{int_bit_and, int_shr}
use Rattle.base64_alphabet.specs.Table.{place_of, holds_below}
use mir.Syntax.{w16}
use Rattle.base64_alphabet.specs.declared.alphabet.EncodeStep.{EncodeStep}
use Rattle.base64_alphabet.specs.declared.alphabet.EncodeStep.TheVariants.{Apply, Diff}
use Rattle.base64_alphabet.specs.declared.alphabet.DecodeStep.{DecodeStep}
use Rattle.base64_alphabet.specs.declared.alphabet.DecodeStep.TheVariants.{Range, Eq}

-- negative exactly where a ≤ c ≤ z
abbrev pub common_sign : ℕ → ℕ → ℕ → ℤ
common_sign a z c = int_bit_and w16 ((pos a -ℤ pos 1) -ℤ pos c) (pos c -ℤ (pos z +ℤ pos 1))

-- all bits set there, else 0
abbrev pub between : ℕ → ℕ → ℕ → ℤ
between a z c = int_shr (common_sign a z c) 8

-- what a step adds at the character c
abbrev pub added_by : DecodeStep → ℕ → ℤ
added_by (Range a z k) c = int_bit_and w16 (between a z c) (pos c +ℤ k)
added_by (Eq v k) c = int_bit_and w16 (between v v c) k

-- the sum of the steps, from d
abbrev pub sum_from : ℤ → List DecodeStep → ℕ → ℤ
sum_from d [] c = d
sum_from d (s ∷ steps) c = sum_from (d +ℤ added_by s c) steps c

abbrev pub fits_16 : ℤ → Bool
fits_16 z = int_le (negsuc 32767) z && int_le z (pos 32767)

-- the character with the pass's offset stays in i16
abbrev pub value_fits : DecodeStep → ℕ → Bool
value_fits (Range a z k) c = fits_16 (pos c +ℤ k)
value_fits (Eq v k) c = true

-- no sum leaves i16
abbrev pub step_fits : ℤ → DecodeStep → ℕ → Bool
step_fits d s c = value_fits s c && fits_16 (d +ℤ added_by s c)

abbrev pub sums_fit : ℤ → List DecodeStep → ℕ → Bool
sums_fit d [] c = true
sums_fit d (s ∷ steps) c = step_fits d s c && sums_fit (d +ℤ added_by s c) steps c

abbrev pub same_ℤ : ℤ → ℤ → Bool
same_ℤ x y = int_le x y && int_le y x

-- the steps answer the place in the table at the byte c, and no sum leaves i16
abbrev pub decodes_at : List DecodeStep → List ℕ → ℕ → Bool
decodes_at steps table c = sums_fit (negsuc 0) steps c && same_ℤ (sum_from (negsuc 0) steps c) (place_of table c)

-- at each byte
abbrev pub decodes : List DecodeStep → List ℕ → Bool
decodes steps table = holds_below (decodes_at steps table) 256

-- ---- encoding

-- what a step adds to the sum d at the digit_of s
abbrev pub turned_by : EncodeStep → ℤ → ℤ → ℤ
turned_by (Apply t k) d s = int_bit_and w16 (int_shr (pos t -ℤ d) 8) k
turned_by (Diff t k) d s = int_bit_and w16 (int_shr (pos t -ℤ s) 8) k

abbrev pub turned_fits : EncodeStep → ℤ → ℤ → Bool
turned_fits (Apply t k) d s = fits_16 (pos t -ℤ d)
turned_fits (Diff t k) d s = fits_16 (pos t -ℤ s)

abbrev pub turned_from : ℤ → List EncodeStep → ℤ → ℤ
turned_from d [] s = d
turned_from d (e ∷ steps) s = turned_from (d +ℤ turned_by e d s) steps s

abbrev pub turns_fit : ℤ → List EncodeStep → ℤ → Bool
turns_fit d [] s = true
turns_fit d (e ∷ steps) s = (turned_fits e d s && fits_16 (d +ℤ turned_by e d s)) && turns_fit (d +ℤ turned_by e d s) steps s

-- the steps answer the character at the place s, and no sum leaves i16
abbrev pub encodes_at : ℕ → List EncodeStep → List ℕ → ℕ → Bool
encodes_at base steps table s = turns_fit (pos s +ℤ pos base) steps (pos s)
    && same_ℤ (turned_from (pos s +ℤ pos base) steps (pos s)) (pos (slice_index table s))

abbrev pub encodes : ℕ → List EncodeStep → List ℕ → Bool
encodes base steps table = holds_below (encodes_at base steps table) 64

-- the pass reads the place alone, and not the sum
abbrev pub reads_place : EncodeStep → Bool
reads_place (Apply t k) = false
reads_place (Diff t k) = true

-- each pass does
abbrev pub read_places : List EncodeStep → Bool
read_places [] = true
read_places (e ∷ steps) = reads_place e && read_places steps
