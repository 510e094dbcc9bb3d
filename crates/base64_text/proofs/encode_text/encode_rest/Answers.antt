use Rattle.std.proofs.Common.{◌≡◌, true, false, sym, ◌∙◌, arith}
use Rattle.base64_text.proofs.LastLemmas.{one_text, two_text}
use Rattle.base64_text.proofs.EncodingLemmas.{none_text}
use Rattle.base64_text.proofs.encode_text.encode_rest.Goals as goal

pub returns-then-PADDED-clause-text : goal.returns-then-PADDED-clause-text
returns-then-PADDED-clause-text g c =
    let e : g.E.Alphabet.form.padded ≡ true = g.met.E.Alphabet.tells_padding ∙ sym c.PADDED-in-len1.ensures ∙ c.if-PADDED.true in
    rw e (one_text g.E.Alphabet.form.end g.E.Alphabet.form.table c.args.rest.now c.encode_3bytes_counted-in-len1.new.dst (omega arith)
    c.encode_3bytes_counted-in-len1.ensures.written).0

pub returns-else-PADDED-clause-text : goal.returns-else-PADDED-clause-text
returns-else-PADDED-clause-text g c =
    let e : g.E.Alphabet.form.padded ≡ false = g.met.E.Alphabet.tells_padding ∙ sym c.PADDED-in-len1.ensures ∙ c.if-PADDED.false in
    rw e (one_text g.E.Alphabet.form.end g.E.Alphabet.form.table c.args.rest.now c.encode_3bytes_counted-in-len1.new.dst (omega arith)
    c.encode_3bytes_counted-in-len1.ensures.written).1

pub returns-then-PADDED-2-clause-text : goal.returns-then-PADDED-2-clause-text
returns-then-PADDED-2-clause-text g c =
    let e : g.E.Alphabet.form.padded ≡ true = g.met.E.Alphabet.tells_padding ∙ sym c.PADDED-in-len2.ensures ∙ c.if-PADDED-2.true in
    rw e (two_text g.E.Alphabet.form.end g.E.Alphabet.form.table c.args.rest.now c.encode_3bytes_counted-in-len2.new.dst (omega arith)
    c.encode_3bytes_counted-in-len2.ensures.written).0

pub returns-else-PADDED-2-clause-text : goal.returns-else-PADDED-2-clause-text
returns-else-PADDED-2-clause-text g c =
    let e : g.E.Alphabet.form.padded ≡ false = g.met.E.Alphabet.tells_padding ∙ sym c.PADDED-in-len2.ensures ∙ c.if-PADDED-2.false in
    rw e (two_text g.E.Alphabet.form.end g.E.Alphabet.form.table c.args.rest.now c.encode_3bytes_counted-in-len2.new.dst (omega arith)
    c.encode_3bytes_counted-in-len2.ensures.written).1

pub returns-then-not-PADDED-clause-text : goal.returns-then-not-PADDED-clause-text
returns-then-not-PADDED-clause-text g c = none_text g.E.Alphabet.form.end g.E.Alphabet.form.table c.args.rest.now g.E.Alphabet.form.padded (omega arith)

pub returns-else-not-PADDED-clause-text : goal.returns-else-not-PADDED-clause-text
returns-else-not-PADDED-clause-text g c = none_text g.E.Alphabet.form.end g.E.Alphabet.form.table c.args.rest.now g.E.Alphabet.form.padded (omega arith)
