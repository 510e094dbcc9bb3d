use Rattle.std.proofs.Common.{ap, ◌∙◌, take}
use Rattle.base64_alphabet.proofs.DigitsLemmas.{first_lanes, low_digits, low_digits_are, bytes_taken}
use Rattle.base64_alphabet.proofs.encode_lanes.digits_low.Goals as goal

pub returns : goal.returns
returns c = ap low_digits (first_lanes c.args.bytes c.requires.len) ∙ low_digits_are (take 24 c.args.bytes) (bytes_taken 24 c.args.bytes c.requires.bytes)
