-- The alphabet of PBKDF2 hashes: the standard one (RFC 4648 section 4, table 1) with `.` for `+`, and its passes.
use Rattle.std.specs.Prelude.{◌≡◌, ℕ, List, [], ◌∷◌, codes, pos, negsuc, true, refl}
use Rattle.base64_alphabet.specs.Table.{holds_below}
use Rattle.base64_alphabet.specs.Passes.{decodes, encodes}
use Rattle.base64_alphabet.specs.declared.alphabet.DecodeStep.{DecodeStep}
use Rattle.base64_alphabet.specs.declared.alphabet.DecodeStep.TheVariants.{Range, Eq}
use Rattle.base64_alphabet.specs.declared.alphabet.EncodeStep.{EncodeStep}
use Rattle.base64_alphabet.specs.declared.alphabet.EncodeStep.TheVariants.{Diff}

-- the characters for 0 to 63
abbrev pub pbkdf2 : List ℕ
pbkdf2 = codes "ABCDEFGHIJKLMNOPQRSTUVWXYZabcdefghijklmnopqrstuvwxyz0123456789./"

-- the passes of `decode_6bits`
abbrev pub pbkdf2_decoder : List DecodeStep
pbkdf2_decoder = Range 65 90 (negsuc 63) ∷ Range 97 122 (negsuc 69) ∷ Range 48 57 (pos 5) ∷ Eq 46 (pos 63) ∷ Eq 47 (pos 64) ∷ []

-- the passes of `encode_6bits`
abbrev pub pbkdf2_encoder : List EncodeStep
pbkdf2_encoder = Diff 25 (pos 6) ∷ Diff 51 (negsuc 74) ∷ Diff 61 (negsuc 11) ∷ Diff 62 (pos 0) ∷ []

pub pbkdf2_decodes : decodes pbkdf2_decoder pbkdf2 ≡ true
unfolding holds_below
pbkdf2_decodes = refl

pub pbkdf2_encodes : encodes 65 pbkdf2_encoder pbkdf2 ≡ true
unfolding holds_below
pbkdf2_encodes = refl
