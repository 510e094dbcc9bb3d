use Rattle.std.proofs.Common.{◌<◌, ◌*◌, ◌^◌, length, refl, sym, ◌∙◌, ap, Bool}
use Rattle.std.proofs.lemmas.Bool.{lt-ltb}
use Rattle.base64_text.specs.Counts.{encoded_len}
use Rattle.base64_text.proofs.EncodingLemmas.{length-encoding_of}
use Rattle.base64_text.proofs.encoding.Encoding.encoded_len.Goals as goal

pub returns-in-Some : goal.returns-in-Some
returns-in-Some g c =
    let lt : 4 * length c.args.bytes.now < 2 ^ 64 = c.in-Some.ensures.fits.0 refl in
    rw (lt-ltb (4 * length c.args.bytes.now) (2 ^ 64) lt)
    (c.in-Some.ensures.len ∙ ap (λ (p : Bool). encoded_len p (length c.args.bytes.now)) (c.PADDED.ensures ∙ sym g.met.Self.Alphabet.tells_padding)
    ∙ sym (length-encoding_of g.Self.Alphabet.form.end g.Self.Alphabet.form.table c.args.bytes.now g.Self.Alphabet.form.padded))
