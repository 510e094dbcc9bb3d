use Rattle.std.proofs.Common.{rules}
use Rattle.der_core.specs.Sequence.{TwoFields}
use Rattle.der_core.specs.SequenceLaws.{then_none, no_second_of_two, more_than_two, unless}
use Rattle.der_core.proofs.Tagged.{on_err_any}
use Rattle.update_document.specs.declared.fields.BundleFields.{BundleFields}
use Rattle.update_document.proofs.fields.BundleFieldsDecodeValue.decode_value.Goals as goal

pub returns-in_err-text-clause-none : goal.returns-in_err-text-clause-none
returns-in_err-text-clause-none g c =
    let none : (v : BundleFields _ _) → TwoFields g.Text.Decode.Reads g.Keys.Decode.Reads c.args.cursor.now v.text v.jwks → ⊥ = λ v content.
    then_none g.Text.Decode.Reads _ c.args.cursor.now v.text (rw (c.new-at.ensures, c.rest.ensures) at c.in_err-text.ensures.none) content in
    on_err_any _ none

pub returns-in_err-jwks-clause-none : goal.returns-in_err-jwks-clause-none
returns-in_err-jwks-clause-none g c =
    let none : (v : BundleFields _ _) → TwoFields g.Text.Decode.Reads g.Keys.Decode.Reads c.args.cursor.now v.text v.jwks → ⊥ = λ v content.
    no_second_of_two g.Text.Decode.Reads g.Keys.Decode.Reads (g.met.Text.Decode c.lifetimes (search rules)).one_value
    c.args.cursor.now _ _ (rw (c.new-at.ensures, c.rest.ensures) at c.in_ok-text.ensures.value) c.in_err-jwks.ensures.none v.text v.jwks content in
    on_err_any _ none

pub returns-then-not-is_finished-clause-none : goal.returns-then-not-is_finished-clause-none
returns-then-not-is_finished-clause-none g c = λ v content.
    more_than_two g.Text.Decode.Reads g.Keys.Decode.Reads (g.met.Text.Decode c.lifetimes (search rules)).one_value
    (g.met.Keys.Decode c.lifetimes (search rules)).one_value
    _ _ _ _ _ c.in_ok-text.ensures.value c.in_ok-jwks.ensures.value (unless _ c.is_finished.ensures c.if-not-is_finished.true) v.text v.jwks
    (rw (c.new-at.ensures, c.rest.ensures) content)
