-- The alphabet of bcrypt, and its passes.
use Rattle.std.specs.Prelude.{◌≡◌, ℕ, List, [], ◌∷◌, codes, pos, negsuc, true, refl}
use Rattle.base64_alphabet.specs.Table.{holds_below}
use Rattle.base64_alphabet.specs.Passes.{decodes, encodes}
use Rattle.base64_alphabet.specs.declared.alphabet.DecodeStep.{DecodeStep}
use Rattle.base64_alphabet.specs.declared.alphabet.DecodeStep.TheVariants.{Range}
use Rattle.base64_alphabet.specs.declared.alphabet.EncodeStep.{EncodeStep}
use Rattle.base64_alphabet.specs.declared.alphabet.EncodeStep.TheVariants.{Apply}

-- the characters for 0 to 63
abbrev pub bcrypt : List ℕ
bcrypt = codes "./ABCDEFGHIJKLMNOPQRSTUVWXYZabcdefghijklmnopqrstuvwxyz0123456789"

-- the passes of `decode_6bits`
abbrev pub bcrypt_decoder : List DecodeStep
bcrypt_decoder = Range 46 47 (negsuc 44) ∷ Range 65 90 (negsuc 61) ∷ Range 97 122 (negsuc 67) ∷ Range 48 57 (pos 7) ∷ []

-- the passes of `encode_6bits`
abbrev pub bcrypt_encoder : List EncodeStep
bcrypt_encoder = Apply 47 (pos 17) ∷ Apply 90 (pos 6) ∷ Apply 122 (negsuc 74) ∷ []

pub bcrypt_decodes : decodes bcrypt_decoder bcrypt ≡ true
unfolding holds_below
bcrypt_decodes = refl

pub bcrypt_encodes : encodes 46 bcrypt_encoder bcrypt ≡ true
unfolding holds_below
bcrypt_encodes = refl
