use Rattle.std.proofs.lemmas.Bool.{false≢true}
use Rattle.pkcs8.proofs.Fields.{one_value_iff, no_value}
use Rattle.pkcs8.proofs.extensions.is_one_value.Goals as goal

pub returns-in-Ok : goal.returns-in-Ok
returns-in-Ok c =
    let iff = one_value_iff _ c.in-Ok.field-0.tag.byte c.in-Ok.field-0.value.now c.read_value.new.self c.in-Ok.field-0.tag.valid
    (rw c.new-at.ensures at c.in-Ok.ensures.value, c.in-Ok.ensures.fits) in
    (λ finished. iff.0 (c.is_finished.ensures.0 finished), λ one. c.is_finished.ensures.1 (iff.1 one))

pub returns-in-Err : goal.returns-in-Err
returns-in-Err c = (λ e. absurd (false≢true e), λ v. absurd (no_value _ c.in-Err.ensures.none (rw c.new-at.ensures v)))
