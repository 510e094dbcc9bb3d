-- Lengths of encodings, and how many conversions of one character a call makes.
use Rattle.std.specs.Prelude.{ℕ, ◌+◌, ◌*◌, ◌/◌, ◌%◌, Bool, not, ◌==◌, ◌&&◌, if◌then◌else◌, List, length}
use Rattle.base64_text.specs.Canonical.{unpadded_len, is_clean}

-- the length of the encoding of n bytes
abbrev pub encoded_len : Bool → ℕ → ℕ
encoded_len padded n = if padded then 4 * ((n + 2) / 3) else (4 * n + 2) / 3

-- how many conversions the encoding of n bytes takes: four for each group of three bytes, and four for the
-- rest, which a padded alphabet leaves out where it is empty
abbrev pub encode_count : Bool → ℕ → ℕ
encode_count padded n = 4 * (n / 3) + (if padded && (n % 3 == 0) then 0 else 4)

-- how many conversions the characters before the padding take: u of them in blocks of four, and one block more
-- for the rest, which is filled up, even where it is empty
abbrev pub loose_count : ℕ → ℕ
loose_count u = 4 * (u / 4) + 4

-- how many conversions the decoding of a text takes, where its length tests pass: a text that is clean and not
-- empty has its last block encoded again
abbrev pub decode_count : List ℕ → Bool → List ℕ → ℕ
decode_count table padded t = loose_count (unpadded_len padded t)
    + (if is_clean table padded t && not (length t == 0) then (if not padded && (unpadded_len padded t % 4 == 0) then 8 else 4) else 0)
