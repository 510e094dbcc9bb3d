-- The alphabet of `crypt` and of its SHA-256 and SHA-512 forms, and its passes.
use Rattle.std.specs.Prelude.{◌≡◌, ℕ, List, [], ◌∷◌, codes, pos, negsuc, true, refl}
use Rattle.base64_alphabet.specs.Table.{holds_below}
use Rattle.base64_alphabet.specs.Passes.{decodes, encodes}
use Rattle.base64_alphabet.specs.declared.alphabet.DecodeStep.{DecodeStep}
use Rattle.base64_alphabet.specs.declared.alphabet.DecodeStep.TheVariants.{Range}
use Rattle.base64_alphabet.specs.declared.alphabet.EncodeStep.{EncodeStep}
use Rattle.base64_alphabet.specs.declared.alphabet.EncodeStep.TheVariants.{Apply}

-- the characters for 0 to 63
abbrev pub crypt : List ℕ
crypt = codes "./0123456789ABCDEFGHIJKLMNOPQRSTUVWXYZabcdefghijklmnopqrstuvwxyz"

-- the passes of `decode_6bits`
abbrev pub crypt_decoder : List DecodeStep
crypt_decoder = Range 46 57 (negsuc 44) ∷ Range 65 90 (negsuc 51) ∷ Range 97 122 (negsuc 57) ∷ []

-- the passes of `encode_6bits`
abbrev pub crypt_encoder : List EncodeStep
crypt_encoder = Apply 57 (pos 7) ∷ Apply 90 (pos 6) ∷ []

pub crypt_decodes : decodes crypt_decoder crypt ≡ true
unfolding holds_below
crypt_decodes = refl

pub crypt_encodes : encodes 46 crypt_encoder crypt ≡ true
unfolding holds_below
crypt_encodes = refl
