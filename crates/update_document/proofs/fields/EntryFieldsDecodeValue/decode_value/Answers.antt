use Rattle.std.proofs.Common.{rules}
use Rattle.der_core.specs.Sequence.{ThreeFields}
use Rattle.der_core.specs.SequenceLaws.{then_none, no_second_of_three, no_third_of_three, more_than_three, unless}
use Rattle.der_core.proofs.Tagged.{on_err_any}
use Rattle.update_document.specs.declared.fields.EntryFields.{EntryFields}
use Rattle.update_document.proofs.fields.EntryFieldsDecodeValue.decode_value.Goals as goal

pub returns-in_err-text-clause-none : goal.returns-in_err-text-clause-none
returns-in_err-text-clause-none g c =
    let none : (v : EntryFields _ _ _) →
    ThreeFields g.Text.Decode.Reads g.Private.Decode.Reads g.Public.Decode.Reads c.args.cursor.now v.text v.private_key v.public_key → ⊥ = λ v content.
    then_none g.Text.Decode.Reads _ c.args.cursor.now v.text (rw (c.new-at.ensures, c.rest.ensures) at c.in_err-text.ensures.none) content in
    on_err_any _ none

pub returns-in_err-private_key-clause-none : goal.returns-in_err-private_key-clause-none
returns-in_err-private_key-clause-none g c =
    let none : (v : EntryFields _ _ _) →
    ThreeFields g.Text.Decode.Reads g.Private.Decode.Reads g.Public.Decode.Reads c.args.cursor.now v.text v.private_key v.public_key → ⊥ = λ v content.
    no_second_of_three g.Text.Decode.Reads g.Private.Decode.Reads g.Public.Decode.Reads (g.met.Text.Decode c.lifetimes (search rules)).one_value
    c.args.cursor.now _ _ (rw (c.new-at.ensures, c.rest.ensures) at c.in_ok-text.ensures.value)
    c.in_err-private_key.ensures.none v.text v.private_key v.public_key content in
    on_err_any _ none

pub returns-in_err-public_key-clause-none : goal.returns-in_err-public_key-clause-none
returns-in_err-public_key-clause-none g c =
    let none : (v : EntryFields _ _ _) →
    ThreeFields g.Text.Decode.Reads g.Private.Decode.Reads g.Public.Decode.Reads c.args.cursor.now v.text v.private_key v.public_key → ⊥ = λ v content.
    no_third_of_three g.Text.Decode.Reads g.Private.Decode.Reads g.Public.Decode.Reads (g.met.Text.Decode c.lifetimes (search rules)).one_value
    (g.met.Private.Decode c.lifetimes (search rules)).one_value
    c.args.cursor.now _ _ _ _ (rw (c.new-at.ensures, c.rest.ensures) at c.in_ok-text.ensures.value)
    c.in_ok-private_key.ensures.value c.in_err-public_key.ensures.none v.text v.private_key v.public_key content in
    on_err_any _ none

pub returns-then-not-is_finished-clause-none : goal.returns-then-not-is_finished-clause-none
returns-then-not-is_finished-clause-none g c = λ v content.
    more_than_three g.Text.Decode.Reads g.Private.Decode.Reads g.Public.Decode.Reads (g.met.Text.Decode c.lifetimes (search rules)).one_value
    (g.met.Private.Decode c.lifetimes (search rules)).one_value (g.met.Public.Decode c.lifetimes (search rules)).one_value
    _ _ _ _ _ _ _ c.in_ok-text.ensures.value c.in_ok-private_key.ensures.value c.in_ok-public_key.ensures.value
    (unless _ c.is_finished.ensures c.if-not-is_finished.true) v.text v.private_key v.public_key (rw (c.new-at.ensures, c.rest.ensures) content)
