use Rattle.std.proofs.Common.{string_bytes}
use Rattle.base64_text.proofs.EncodingLemmas.{length-of_text}
use Rattle.base64_text.proofs.encoding.Encoding.encode_string.Goals as goal

pub returns-clause-len : goal.returns-clause-len
returns-clause-len g c = length-of_text string_bytes g.Self.Alphabet.form.end g.Self.Alphabet.form.table c.args.input.now g.Self.Alphabet.form.padded
    c.encode_to_string.result c.encode_to_string.ensures.ok
