-- The eight alphabets by the numbers that a caller names them by, padded or not.
use Rattle.std.specs.Prelude.{ℕ, ◌==◌, ◌||◌, ◌*◌, ◌^◌, Bool, List, length, nat_le, nat_lt, if◌then◌else◌}
use Rattle.base64_alphabet.specs.Encoding.{encoding_of}
use Rattle.base64_alphabet.specs.Form.{Form}
use Rattle.base64_alphabet.specs.Group.{End, High, Low}
use Rattle.base64_alphabet.specs.Standard.{standard}
use Rattle.base64_alphabets.specs.Bcrypt.{bcrypt}
use Rattle.base64_alphabets.specs.Pbkdf2.{pbkdf2}
use Rattle.base64_alphabets.specs.Url.{url}
use Rattle.base64_crypt.specs.Crypt.{crypt}
use Rattle.base64_text.specs.Canonical.{IsDecodeError, decoded_len, unpadded_len}
use Rattle.base64_text.specs.declared.errors.Error.{Error}
use Rattle.kamzirda_c.specs.Status.{done, no_choice, no_room, too_large}

-- 0 and 1: standard. 2 and 3: for URLs. 4: bcrypt. 5: PBKDF2. 6 and 7: crypt. Of the pairs at 0 and 2 the first is padded; only 7 has its low bits first
abbrev pub end_in : ℕ → End
end_in n = if n == 7 then Low else High

abbrev pub table_in : ℕ → List ℕ
table_in n =
    if n == 0 || n == 1 then standard
    else (if n == 2 || n == 3 then url
    else (if n == 4 then bcrypt
    else (if n == 5 then pbkdf2 else crypt)))

abbrev pub is_padded_in : ℕ → Bool
is_padded_in n = n == 0 || n == 2

abbrev pub form_in : ℕ → Form
form_in n = record { end = end_in n; table = table_in n; padded = is_padded_in n }

-- the encoding of some bytes in the alphabet of this number
abbrev pub encoding_in : ℕ → List ℕ → List ℕ
encoding_in n bytes = encoding_of (form_in n) bytes

-- why a text in the alphabet of this number isn't decoded into so much room
abbrev pub IsDecodeErrorIn : ℕ → List ℕ → ℕ → Error → Type 0
IsDecodeErrorIn n text room e = IsDecodeError (form_in n) text room e

-- how many bytes a text's length, without its padding, tells
abbrev pub told_len : ℕ → List ℕ → ℕ
told_len n text = decoded_len (unpadded_len (is_padded_in n) text)

-- what the length of an encoding of n bytes is answered with
abbrev pub length_answer : ℕ → ℕ → ℕ
length_answer alphabet n =
    if nat_le 8 alphabet then no_choice
    else (if nat_le (2 ^ 64) (4 * n) then too_large else done)

-- what encoding into so much room is answered with
abbrev pub encode_answer : ℕ → List ℕ → ℕ → ℕ
encode_answer alphabet bytes room =
    if nat_le 8 alphabet then no_choice
    else (if nat_le (2 ^ 64) (4 * length bytes) then too_large
    else (if nat_lt room (length (encoding_in alphabet bytes)) then no_room else done))
