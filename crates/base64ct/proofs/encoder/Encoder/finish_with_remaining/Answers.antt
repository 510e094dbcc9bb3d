use Rattle.std.proofs.Common.{arith, length, ◌≡◌, ℕ, Bool, ◌+◌, ◌-◌, ◌*◌, ◌/◌, ◌%◌, true, false, refl, sym, ◌∙◌, ap, subst, IsAscii}
use Rattle.base64_alphabet.proofs.TableLemmas.{facts}
use Rattle.base64_text.specs.Counts.{encoded_len}
use Rattle.base64ct.specs.Encoder.{in_lines_len}
use Rattle.base64ct.specs.LineWrapper.{lines_of}
use Rattle.base64ct.specs.Written.{taken_of}
use Rattle.base64ct.proofs.WrittenLemmas.{behind_of, finish_len, finish_size, finished, lines_ascii, placed, position_is, taken_bytes}
use Rattle.base64ct.proofs.encoder.Encoder.finish_with_remaining.Goals as goal

pub returns-in_default-clause-fits : goal.returns-in_default-clause-fits
returns-in_default-clause-fits g c =
    let more : c.rest_len-more.result ≡ encoded_len g.E.Alphabet.form.padded (c.self.inside.count % 3) = c.rest_len-more.ensures
    ∙ ap (λ (p : Bool). encoded_len p (c.self.inside.count % 3)) (c.PADDED.ensures ∙ sym g.met.E.Alphabet.tells_padding) in
    let len = finish_len g.E.Alphabet.form.end g.E.Alphabet.form.table g.E.Alphabet.form.padded c.self.inside.output.now c.self.inside.block
    c.self.inside.wrapper
    c.self.inside.filled c.self.inside.count c.self.invariant (omega arith)
    ∙ ap (λ (k : ℕ). in_lines_len (lines_of c.self.inside.wrapper) (4 * (c.self.inside.count / 3) + k)) (sym more) in
    let none = c.in_default.ensures.none in
    rw (← c.self.view_is) (λ (h : false ≡ true). cc, λ h. absurd (omega (arith, len, none, h)))

pub settle-requires-clause-room : goal.settle-requires-clause-room
settle-requires-clause-room g c =
    let some = c.in-Some.ensures.some in
    let size = finish_size c.self.inside.wrapper c.self.inside.output.now c.encode_front.new.dst c.in-Some.end c.rest_len-more.result c.self.inside.count
    some.1 some.0 c.encode_front.auto.dst in
    let p = placed g.E.Alphabet.form.end g.E.Alphabet.form.table c.self.inside.output.now c.encode_front.new.dst c.self.inside.wrapper c.self.inside.filled
    c.self.inside.count
    (c.in-Some.end - c.rest_len-more.result) c.in-Some.end c.self.invariant some.1
    (some.0 ∙ ap (λ (k : ℕ). in_lines_len (lines_of c.self.inside.wrapper) (4 * (c.self.inside.count / 3) + k)) (sym size))
    (ap (λ (k : ℕ). c.in-Some.end - k) (sym size)) in
    rw (p.at.back, p.at.len) p.room

pub ascii_text-requires : goal.ascii_text-requires
ascii_text-requires g c =
    let some = c.in-Some.ensures.some in
    let more : c.rest_len-more.result ≡ encoded_len g.E.Alphabet.form.padded (c.self.inside.count % 3) = c.rest_len-more.ensures
    ∙ ap (λ (p : Bool). encoded_len p (c.self.inside.count % 3)) (c.PADDED.ensures ∙ sym g.met.E.Alphabet.tells_padding) in
    let size = finish_size c.self.inside.wrapper c.self.inside.output.now c.encode_front.new.dst c.in-Some.end c.rest_len-more.result c.self.inside.count
    some.1 some.0 c.encode_front.auto.dst in
    let text = finished g.E.Alphabet.form.end g.E.Alphabet.form.table g.E.Alphabet.form.padded c.self.inside.wrapper c.self.inside.output.now
    c.encode_front.new.dst
    c.settle.new.out _ c.self.inside.filled
    c.self.inside.count c.in-Some.end c.encode_front.result c.rest_len-more.result c.self.inside.block c.self.invariant (omega arith) some.1 some.0 more
    c.encode_front.ensures.len c.encode_front.ensures.text size c.settle.ensures.text in
    let f = facts g.E.Alphabet.form.table g.met.E.Alphabet.lawful in
    subst IsAscii (sym (c.split_at_mut-text.ensures.front ∙ text))
    (lines_ascii g.E.Alphabet.form.end g.E.Alphabet.form.table g.E.Alphabet.form.padded c.self.inside.wrapper _
    (taken_of g.E.Alphabet.form.end g.E.Alphabet.form.table c.self.inside.wrapper c.self.inside.output.now c.self.inside.filled c.self.inside.count
    c.self.inside.block) f c.self.invariant.lines
    (taken_bytes g.E.Alphabet.form.end g.E.Alphabet.form.table c.self.inside.output.now c.self.inside.block c.self.inside.wrapper c.self.inside.filled
    c.self.inside.count c.self.invariant c.known.ensures))

pub returns-clause-text : goal.returns-clause-text
returns-clause-text g c =
    let some = c.in-Some.ensures.some in
    let more : c.rest_len-more.result ≡ encoded_len g.E.Alphabet.form.padded (c.self.inside.count % 3) = c.rest_len-more.ensures
    ∙ ap (λ (p : Bool). encoded_len p (c.self.inside.count % 3)) (c.PADDED.ensures ∙ sym g.met.E.Alphabet.tells_padding) in
    let size = finish_size c.self.inside.wrapper c.self.inside.output.now c.encode_front.new.dst c.in-Some.end c.rest_len-more.result c.self.inside.count
    some.1 some.0 c.encode_front.auto.dst in
    let text = finished g.E.Alphabet.form.end g.E.Alphabet.form.table g.E.Alphabet.form.padded c.self.inside.wrapper c.self.inside.output.now
    c.encode_front.new.dst
    c.settle.new.out _ c.self.inside.filled
    c.self.inside.count c.in-Some.end c.encode_front.result c.rest_len-more.result c.self.inside.block c.self.invariant (omega arith) some.1 some.0 more
    c.encode_front.ensures.len c.encode_front.ensures.text size c.settle.ensures.text in
    rw (← c.self.view_is) (c.ascii_text.ensures ∙ c.split_at_mut-text.ensures.front ∙ text)

pub returns-clause-fits : goal.returns-clause-fits
returns-clause-fits g c =
    let more : c.rest_len-more.result ≡ encoded_len g.E.Alphabet.form.padded (c.self.inside.count % 3) = c.rest_len-more.ensures
    ∙ ap (λ (p : Bool). encoded_len p (c.self.inside.count % 3)) (c.PADDED.ensures ∙ sym g.met.E.Alphabet.tells_padding) in
    let len = finish_len g.E.Alphabet.form.end g.E.Alphabet.form.table g.E.Alphabet.form.padded c.self.inside.output.now c.self.inside.block
    c.self.inside.wrapper
    c.self.inside.filled c.self.inside.count c.self.invariant (omega arith)
    ∙ ap (λ (k : ℕ). in_lines_len (lines_of c.self.inside.wrapper) (4 * (c.self.inside.count / 3) + k)) (sym more) in
    let some = c.in-Some.ensures.some in
    rw (← c.self.view_is) (λ (h : true ≡ true). omega (arith, len, some.0, some.1), λ h. refl)

pub returns-clause-rest : goal.returns-clause-rest
returns-clause-rest g c =
    let some = c.in-Some.ensures.some in
    let size = finish_size c.self.inside.wrapper c.self.inside.output.now c.encode_front.new.dst c.in-Some.end c.rest_len-more.result c.self.inside.count
    some.1 some.0 c.encode_front.auto.dst in
    let p = placed g.E.Alphabet.form.end g.E.Alphabet.form.table c.self.inside.output.now c.encode_front.new.dst c.self.inside.wrapper c.self.inside.filled
    c.self.inside.count
    (c.in-Some.end - c.rest_len-more.result) c.in-Some.end c.self.invariant some.1
    (some.0 ∙ ap (λ (k : ℕ). in_lines_len (lines_of c.self.inside.wrapper) (4 * (c.self.inside.count / 3) + k)) (sym size))
    (ap (λ (k : ℕ). c.in-Some.end - k) (sym size)) in
    let before = position_is g.E.Alphabet.form.end g.E.Alphabet.form.table g.E.Alphabet.form.padded c.self.inside.output.now c.self.inside.block
    c.self.inside.wrapper
    c.self.inside.filled c.self.inside.count c.self.invariant (omega arith) in
    let text : length c.ascii_text.result.now ≡ c.in-Some.end = ap length c.ascii_text.ensures ∙ c.split_at_mut-text.ensures.front_len in
    let rest = behind_of c.self.inside.output.now c.encode_front.new.dst c.settle.new.out c.self.inside.wrapper c.self.inside.filled _ c.in-Some.end p
    (c.settle.auto.out ∙ p.at.len) in
    rw (← c.self.view_is) (rw (text, before) (c.split_at_mut-text.ensures.back ∙ rest))
