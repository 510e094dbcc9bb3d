use Rattle.std.proofs.Common.{◌<◌, length, arith, rules, sym, ◌∙◌}
use Rattle.std.proofs.lemmas.Bool.{both_ways}
use Rattle.base64_alphabet.proofs.TableLemmas.{facts}
use Rattle.base64_text.specs.declared.errors.Error.TheVariants.{InvalidEncoding}
use Rattle.base64ct.specs.Lines.{ends_in_ending}
use Rattle.base64ct.proofs.BeginLemmas.{err_at, ok_both, ok_then, ok_when}
use Rattle.base64ct.proofs.DecoderLemmas.{bytes_of_lines, of_bytes}
use Rattle.base64ct.proofs.decoder.Decoder.new_wrapped.Goals as goal

pub returns-then-ends_in_break-clause-bytes : goal.returns-then-ends_in_break-clause-bytes
returns-then-ends_in_break-clause-bytes g c b low wrapped =
    let of = of_bytes g.E.Alphabet.form.end g.E.Alphabet.form.table g.E.Alphabet.form.padded c.args.line_width c.args.input.now b
    (facts g.E.Alphabet.form.table g.met.E.Alphabet.lawful) (omega arith) wrapped in
    let accepted = of.accepted in
    both_ways (ends_in_ending c.args.input.now) accepted.0 (sym c.ends_in_break.ensures ∙ c.if-ends_in_break.true)

pub returns-then-ends_in_break-clause-no_bytes : goal.returns-then-ends_in_break-clause-no_bytes
returns-then-ends_in_break-clause-no_bytes g c is b wrapped =
    let wide = c.if-line_width-lt-MIN_LINE_WIDTH.false in
    let of = of_bytes g.E.Alphabet.form.end g.E.Alphabet.form.table g.E.Alphabet.form.padded c.args.line_width c.args.input.now b
    (facts g.E.Alphabet.form.table g.met.E.Alphabet.lawful) (omega arith) wrapped in
    let accepted = of.accepted in
    both_ways (ends_in_ending c.args.input.now) accepted.0 (sym c.ends_in_break.ensures ∙ c.if-ends_in_break.true)

pub returns-clause-bytes : goal.returns-clause-bytes
returns-clause-bytes g c b low wrapped =
    let of = of_bytes g.E.Alphabet.form.end g.E.Alphabet.form.table g.E.Alphabet.form.padded c.args.line_width c.args.input.now b
    (facts g.E.Alphabet.form.table g.met.E.Alphabet.lawful) (omega arith) wrapped in
    let accepted = of.accepted in
    ok_when _ _ _ c.start.result c.start.ensures.items c.start.ensures.err (λ d e. e ∙ of.items) (λ e h. h.1 accepted.1 accepted.2)

pub returns-clause-text : goal.returns-clause-text
returns-clause-text g c =
    let wide = c.if-line_width-lt-MIN_LINE_WIDTH.false in
    let some : 0 < length c.args.input.now = search rules in
    ok_then _ _ c.start.result (ok_both _ _ c.start.result c.start.ensures.items
    (ok_both _ _ c.start.result c.start.ensures.endings c.start.ensures.canonical)) (λ d h b bytes is.
    bytes_of_lines g.E.Alphabet.form.end g.E.Alphabet.form.table g.E.Alphabet.form.padded c.args.line_width c.args.input.now b
    (facts g.E.Alphabet.form.table g.met.E.Alphabet.lawful) (omega arith) some
    (sym c.ends_in_break.ensures ∙ c.if-ends_in_break.false, h.1.0, h.1.1) bytes (sym h.0 ∙ is))

pub returns-clause-no_bytes : goal.returns-clause-no_bytes
returns-clause-no_bytes g c is b wrapped =
    let wide = c.if-line_width-lt-MIN_LINE_WIDTH.false in
    let of = of_bytes g.E.Alphabet.form.end g.E.Alphabet.form.table g.E.Alphabet.form.padded c.args.line_width c.args.input.now b
    (facts g.E.Alphabet.form.table g.met.E.Alphabet.lawful) (omega arith) wrapped in
    let accepted = of.accepted in
    (err_at _ c.start.result InvalidEncoding is c.start.ensures.err).1 accepted.1 accepted.2
