-- The alphabet that is safe in URLs and file names (RFC 4648 section 5, table 2), and its passes.
use Rattle.std.specs.Prelude.{◌≡◌, ℕ, List, [], ◌∷◌, codes, pos, negsuc, true, false, refl}
use Rattle.base64_alphabet.specs.Table.{holds_below}
use Rattle.base64_alphabet.specs.Group.{High}
use Rattle.base64_alphabet.specs.Form.{Form}
use Rattle.base64_alphabet.specs.Passes.{decodes, encodes}
use Rattle.base64_alphabet.specs.declared.alphabet.DecodeStep.{DecodeStep}
use Rattle.base64_alphabet.specs.declared.alphabet.DecodeStep.TheVariants.{Range, Eq}
use Rattle.base64_alphabet.specs.declared.alphabet.EncodeStep.{EncodeStep}
use Rattle.base64_alphabet.specs.declared.alphabet.EncodeStep.TheVariants.{Diff}

-- the characters for 0 to 63
abbrev pub url : List ℕ
url = codes "ABCDEFGHIJKLMNOPQRSTUVWXYZabcdefghijklmnopqrstuvwxyz0123456789-_"

-- its texts with padding, and without
abbrev pub url_padded : Form
url_padded = record { end = High; table = url; padded = true }

abbrev pub url_unpadded : Form
url_unpadded = record { end = High; table = url; padded = false }

-- the passes of `decode_6bits`
abbrev pub url_decoder : List DecodeStep
url_decoder = Range 65 90 (negsuc 63) ∷ Range 97 122 (negsuc 69) ∷ Range 48 57 (pos 5) ∷ Eq 45 (pos 63) ∷ Eq 95 (pos 64) ∷ []

-- the passes of `encode_6bits`
abbrev pub url_encoder : List EncodeStep
url_encoder = Diff 25 (pos 6) ∷ Diff 51 (negsuc 74) ∷ Diff 61 (negsuc 12) ∷ Diff 62 (pos 49) ∷ []

pub url_decodes : decodes url_decoder url ≡ true
unfolding holds_below
url_decodes = refl

pub url_encodes : encodes 65 url_encoder url ≡ true
unfolding holds_below
url_encodes = refl
