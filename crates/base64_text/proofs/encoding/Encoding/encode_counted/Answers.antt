use Rattle.std.proofs.Common.{◌≡◌, true, false}
use Rattle.base64_text.proofs.EncodingLemmas.{length-encoding_of}
use Rattle.base64_text.proofs.encoding.Encoding.encode_counted.Goals as goal

pub returns-in-None-clause-fits : goal.returns-in-None-clause-fits
returns-in-None-clause-fits g c =
    let len = length-encoding_of g.Self.Alphabet.form.end g.Self.Alphabet.form.table c.args.src.now g.Self.Alphabet.form.padded in
    (λ (h : false ≡ true). cc, λ h. c.in-None.ensures.answers.fits.1 (h.0, rw len at h.1))
