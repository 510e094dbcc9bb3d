-- A form of its parts.
use Rattle.std.proofs.Common.{ℕ, Bool, List}
use Rattle.base64_alphabet.specs.Group.{End}
use Rattle.base64_alphabet.specs.Form.{Form}

abbrev pub form : End → List ℕ → Bool → Form
form end table padded = record { end = end; table = table; padded = padded }
