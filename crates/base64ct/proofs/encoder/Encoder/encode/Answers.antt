use Rattle.std.proofs.Common.{arith, sym, ◌∙◌, ◌≡◌, length, true, false, refl}
use Rattle.base64_alphabet.proofs.TableLemmas.{facts}
use Rattle.base64ct.proofs.WrittenLemmas.{block_size, count_low, encode_placed, encoded, groups_len, position_is}
use Rattle.base64ct.proofs.encoder.Encoder.encode.Goals as goal

pub overflow_add-count : goal.overflow_add-count
overflow_add-count g c =
    let low = count_low _ _ _ _ _ _ c.self.invariant in
    let room = c.self.told in
    let few = c.well_formed.1 in
    omega arith

pub returns-in_default-clause-fits : goal.returns-in_default-clause-fits
returns-in_default-clause-fits g c =
    let len = groups_len g.E.Alphabet.form.end g.E.Alphabet.form.table g.E.Alphabet.form.padded c.self.inside.output.now c.self.inside.block c.args.input.now
    c.self.inside.wrapper c.self.inside.filled c.self.inside.count
    c.self.invariant c.self.told.1 in
    let none = c.in_default.ensures.none in
    rw (← c.self.view_is) (λ (h : false ≡ true). cc, λ h. absurd (omega (arith, len, none, h)))

pub settle-self-inside-requires-clause-room : goal.settle-self-inside-requires-clause-room
settle-self-inside-requires-clause-room g c =
    let size = block_size g.E.Alphabet.form.end g.E.Alphabet.form.table c.self.inside.block c.args.input.now c.encode_groups.new.out c.self.inside.count
    c.self.told.1
    c.encode_groups.ensures.text in
    let p = encode_placed g.E.Alphabet.form.end g.E.Alphabet.form.table c.self.inside.output.now c.encode_groups.new.out c.self.inside.wrapper
    c.self.inside.filled
    c.self.inside.count (length c.args.input.now) _ c.in-Some.end
    c.self.invariant c.in-Some.ensures.some.1 c.in-Some.ensures.some.0 refl size in
    rw (p.at.back, p.at.len) p.room

pub invariant_of-self : goal.invariant_of-self
invariant_of-self g c =
    (encoded g.E.Alphabet.form.end g.E.Alphabet.form.table g.E.Alphabet.form.padded c.self.inside.wrapper c.settle-self-inside.result c.self.inside.output.now
    c.encode_groups.new.out c.settle-self-inside.new.out
    c.self.inside.filled _ c.in-Some.end c.self.inside.count c.self.inside.block c.encode_groups.new.block c.args.input.now
    (facts g.E.Alphabet.form.table g.met.E.Alphabet.lawful) c.self.invariant
    c.self.told.1 c.encode_groups.ensures.bytes c.in-Some.ensures.some.1 c.in-Some.ensures.some.0 refl c.encode_groups.ensures.text
    c.settle-self-inside.ensures.text c.settle-self-inside.ensures.next
    c.encode_groups.ensures.rest).written

pub returns-clause-ok : goal.returns-clause-ok
returns-clause-ok g c = rw (← c.self.view_is)
    (encoded g.E.Alphabet.form.end g.E.Alphabet.form.table g.E.Alphabet.form.padded c.self.inside.wrapper c.settle-self-inside.result c.self.inside.output.now
    c.encode_groups.new.out c.settle-self-inside.new.out
    c.self.inside.filled _ c.in-Some.end c.self.inside.count c.self.inside.block c.encode_groups.new.block c.args.input.now
    (facts g.E.Alphabet.form.table g.met.E.Alphabet.lawful) c.self.invariant
    c.self.told.1 c.encode_groups.ensures.bytes c.in-Some.ensures.some.1 c.in-Some.ensures.some.0 refl c.encode_groups.ensures.text
    c.settle-self-inside.ensures.text c.settle-self-inside.ensures.next
    c.encode_groups.ensures.rest).seen

pub returns-clause-fits : goal.returns-clause-fits
returns-clause-fits g c =
    let len = groups_len g.E.Alphabet.form.end g.E.Alphabet.form.table g.E.Alphabet.form.padded c.self.inside.output.now c.self.inside.block c.args.input.now
    c.self.inside.wrapper c.self.inside.filled c.self.inside.count
    c.self.invariant c.self.told.1 in
    let some = c.in-Some.ensures.some in
    rw (← c.self.view_is) (λ (h : true ≡ true). omega (arith, len, some.0, some.1), λ h. refl)

pub returns-clause-behind : goal.returns-clause-behind
returns-clause-behind g c =
    let r = encoded g.E.Alphabet.form.end g.E.Alphabet.form.table g.E.Alphabet.form.padded c.self.inside.wrapper c.settle-self-inside.result
    c.self.inside.output.now
    c.encode_groups.new.out c.settle-self-inside.new.out
    c.self.inside.filled _ c.in-Some.end c.self.inside.count c.self.inside.block c.encode_groups.new.block c.args.input.now
    (facts g.E.Alphabet.form.table g.met.E.Alphabet.lawful) c.self.invariant
    c.self.told.1 c.encode_groups.ensures.bytes c.in-Some.ensures.some.1 c.in-Some.ensures.some.0 refl c.encode_groups.ensures.text
    c.settle-self-inside.ensures.text c.settle-self-inside.ensures.next
    c.encode_groups.ensures.rest in
    let after = groups_len g.E.Alphabet.form.end g.E.Alphabet.form.table g.E.Alphabet.form.padded c.self.inside.output.now c.self.inside.block c.args.input.now
    c.self.inside.wrapper c.self.inside.filled c.self.inside.count
    c.self.invariant c.self.told.1 ∙ sym c.in-Some.ensures.some.0 in
    let before = position_is g.E.Alphabet.form.end g.E.Alphabet.form.table g.E.Alphabet.form.padded c.self.inside.output.now c.self.inside.block
    c.self.inside.wrapper
    c.self.inside.filled c.self.inside.count c.self.invariant c.self.told.1 in
    rw (← c.self.view_is) (rw (after, before) r.behind)
