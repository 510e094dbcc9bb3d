-- The standard alphabet (RFC 4648 section 4, table 1), and its passes.
use Rattle.std.specs.Prelude.{◌≡◌, ℕ, List, [], ◌∷◌, codes, pos, negsuc, true, false, refl}
use Rattle.base64_alphabet.specs.Table.{holds_below}
use Rattle.base64_alphabet.specs.Group.{High}
use Rattle.base64_alphabet.specs.Form.{Form}
use Rattle.base64_alphabet.specs.Passes.{decodes, encodes}
use Rattle.base64_alphabet.specs.declared.alphabet.DecodeStep.{DecodeStep}
use Rattle.base64_alphabet.specs.declared.alphabet.DecodeStep.TheVariants.{Range, Eq}
use Rattle.base64_alphabet.specs.declared.alphabet.EncodeStep.{EncodeStep}
use Rattle.base64_alphabet.specs.declared.alphabet.EncodeStep.TheVariants.{Diff}

-- the characters for 0 to 63
abbrev pub standard : List ℕ
standard = codes "ABCDEFGHIJKLMNOPQRSTUVWXYZabcdefghijklmnopqrstuvwxyz0123456789+/"

-- its texts with padding, and without
abbrev pub standard_padded : Form
standard_padded = record { end = High; table = standard; padded = true }

abbrev pub standard_unpadded : Form
standard_unpadded = record { end = High; table = standard; padded = false }

-- the passes of `decode_6bits`
abbrev pub standard_decoder : List DecodeStep
standard_decoder = Range 65 90 (negsuc 63) ∷ Range 97 122 (negsuc 69) ∷ Range 48 57 (pos 5) ∷ Eq 43 (pos 63) ∷ Eq 47 (pos 64) ∷ []

-- the passes of `encode_6bits`
abbrev pub standard_encoder : List EncodeStep
standard_encoder = Diff 25 (pos 6) ∷ Diff 51 (negsuc 74) ∷ Diff 61 (negsuc 14) ∷ Diff 62 (pos 3) ∷ []

pub standard_decodes : decodes standard_decoder standard ≡ true
unfolding holds_below
standard_decodes = refl

pub standard_encodes : encodes 65 standard_encoder standard ≡ true
unfolding holds_below
standard_encodes = refl
