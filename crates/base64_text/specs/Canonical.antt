-- Canonical texts (RFC 4648 section 3.5), and why a whole text is refused.
use Rattle.std.specs.Prelude.{◌≡◌, ◌≢◌, ℕ, ◌+◌, ◌-◌, ◌*◌, ◌/◌, ◌%◌, ◌<◌, ◌≤◌, ◌^◌, Bool, true, not, ◌==◌, nat_le, ◌&&◌, ◌||◌, ◌⊎◌, if◌then◌else◌, List, []}
use Rattle.std.specs.Prelude.{◌∷◌, ◌++◌, length, take, drop, replicate, count_by, All}
use Rattle.base64_alphabet.specs.Form.{Form}
use Rattle.base64_alphabet.specs.Table.{all_in}
use Rattle.base64_alphabet.specs.Encoding.{encoding_of, bytes_of_blocks}
use Rattle.base64_text.specs.declared.errors.Error.{Error}
use Rattle.base64_text.specs.declared.errors.Error.TheVariants.{InvalidEncoding, InvalidLength, OutOfMemory}

-- each number is a byte
abbrev pub IsBytes : List ℕ → Type 0
IsBytes b = All (λ x. x < 256) b

-- no bytes have this text as their encoding
abbrev pub IsNoEncoding : Form → List ℕ → Type 0
IsNoEncoding form t = (b : List ℕ) → IsBytes b → t ≡ encoding_of form b → ⊥

-- how many bytes u characters stand for
abbrev pub decoded_len : ℕ → ℕ
decoded_len u = 3 * (u / 4) + 3 * (u % 4) / 4

-- the length without the `=` among the last two characters of a padded text
abbrev pub unpadded_len : Bool → List ℕ → ℕ
unpadded_len padded t = if padded then length t - count_by (λ c. c == 61) (drop (length t - 2) t) else length t

-- each character is `=`
abbrev pub all_pads : List ℕ → Bool
all_pads [] = true
all_pads (c ∷ t) = (c == 61) && all_pads t

-- a text is clean: what stands before the `=` at its end is in the table and isn't one character more than
-- whole blocks, and a padded text has whole blocks
abbrev pub is_clean : List ℕ → Bool → List ℕ → Bool
is_clean table padded t = all_in table (take (unpadded_len padded t) t) && all_pads (drop (unpadded_len padded t) t)
    && not (unpadded_len padded t % 4 == 1) && (not padded || (length t % 4 == 0))

-- the bytes that a clean text's characters stand for, whatever bits follow the last byte: a short last block
-- is filled with `A`
abbrev pub loose_bytes : Form → List ℕ → List ℕ
loose_bytes form t = take (decoded_len (unpadded_len form.padded t)) (bytes_of_blocks form.end form.table
    (take (unpadded_len form.padded t) t ++ replicate (3 - (unpadded_len form.padded t - 1) % 4) 65))

-- a padded text has whole blocks of four characters
abbrev pub HasWholeBlocks : Bool → List ℕ → Type 0
HasWholeBlocks padded t = padded ≡ true → length t % 4 ≡ 0

-- why `decode` refuses a text, with an output of `space` bytes: the first of its tests that fails
abbrev pub IsDecodeError : Form → List ℕ → ℕ → Error → Type 0
IsDecodeError form t space InvalidEncoding = ((form.padded ≡ true) × (length t % 4 ≢ 0))
    ⊎ (HasWholeBlocks form.padded t × (decoded_len (unpadded_len form.padded t) ≤ space) × IsNoEncoding form t)
IsDecodeError form t space InvalidLength = HasWholeBlocks form.padded t × (space < decoded_len (unpadded_len form.padded t))
IsDecodeError form t space OutOfMemory = ⊥

-- why `decode_vec` refuses a text
abbrev pub IsDecodeVecError : Form → List ℕ → Error → Type 0
IsDecodeVecError form t InvalidEncoding = IsNoEncoding form t
IsDecodeVecError form t InvalidLength = ⊥
IsDecodeVecError form t OutOfMemory = Unit {0}

-- the test of `decode_in_place`'s length: a padded text has whole blocks
abbrev pub has_whole_blocks : Bool → List ℕ → Bool
has_whole_blocks padded t = not padded || (length t % 4 == 0)

-- the tests of lengths that `decode` makes first, with an output of `space` bytes
abbrev pub has_lengths : Bool → List ℕ → ℕ → Bool
has_lengths padded t space = has_whole_blocks padded t && nat_le (decoded_len (unpadded_len padded t)) space

-- why `encode_string` refuses n bytes
abbrev pub IsEncodeStringError : ℕ → Error → Type 0
IsEncodeStringError n InvalidEncoding = ⊥
IsEncodeStringError n InvalidLength = 2 ^ 64 ≤ 4 * n
IsEncodeStringError n OutOfMemory = 4 * n < 2 ^ 64
