use Rattle.std.proofs.Common.{refl}
use Rattle.base64_alphabet.specs.Encoding.{encoding_of}
use Rattle.base64_alphabet.proofs.TableLemmas.{facts}
use Rattle.base64ct.proofs.DecoderLemmas.{encoding_line}
use Rattle.base64_text.proofs.EncodingLemmas.{encoding_some}
use Rattle.base64ct.proofs.WrappingLemmas.{wrapped_lines}
use Rattle.base64ct.proofs.line_laws.wrapped_encoding_is_read_back.Goals as goal

pub returns : goal.returns
returns g c = λ width ending b low some bytes.
    let f = facts g.E.Alphabet.form.table g.met.E.Alphabet.lawful in (
      encoding_of g.E.Alphabet.form b,
      wrapped_lines width ending (encoding_of g.E.Alphabet.form b) low
          (encoding_some g.E.Alphabet.form.end g.E.Alphabet.form.table g.E.Alphabet.form.padded b some)
          (encoding_line g.E.Alphabet.form.end g.E.Alphabet.form.table g.E.Alphabet.form.padded b f bytes),
      refl,
      bytes,
    )
