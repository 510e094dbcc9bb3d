-- Where a field cannot be read, or more follows the third, there is no such value.
use Rattle.std.proofs.Common.{rules}
use Rattle.der_core.specs.SequenceLaws.{no_second_of_three, no_third_of_three, more_than_three, unless}
use Rattle.der_tests.proofs.visit.VisitDecodeValue.decode_value.Goals as goal

pub returns-in_default-decode-clause-none : goal.returns-in_default-decode-clause-none
returns-in_default-decode-clause-none g c = λ v content.
    no_second_of_three g.Place.Decode.Reads g.Guest.Decode.Reads g.Proof.Decode.Reads (g.met.Place.Decode c.lifetimes (search rules)).one_value
    _ _ _ c.in-Ok.ensures.value c.in_default-decode.ensures.none v.place v.guest v.proof (rw (c.new-at.ensures, c.rest.ensures) content)

pub returns-in_default-decode-2-clause-none : goal.returns-in_default-decode-2-clause-none
returns-in_default-decode-2-clause-none g c = λ v content.
    no_third_of_three g.Place.Decode.Reads g.Guest.Decode.Reads g.Proof.Decode.Reads (g.met.Place.Decode c.lifetimes (search rules)).one_value
    (g.met.Guest.Decode c.lifetimes (search rules)).one_value
    _ _ _ _ _ c.in-Ok.ensures.value c.in-Ok-decode.ensures.value c.in_default-decode-2.ensures.none v.place v.guest v.proof
    (rw (c.new-at.ensures, c.rest.ensures) content)

pub returns-then-not-is_finished-clause-none : goal.returns-then-not-is_finished-clause-none
returns-then-not-is_finished-clause-none g c = λ v content.
    more_than_three g.Place.Decode.Reads g.Guest.Decode.Reads g.Proof.Decode.Reads (g.met.Place.Decode c.lifetimes (search rules)).one_value
    (g.met.Guest.Decode c.lifetimes (search rules)).one_value (g.met.Proof.Decode c.lifetimes (search rules)).one_value
    _ _ _ _ _ _ _ c.in-Ok.ensures.value c.in-Ok-decode.ensures.value c.in-Ok-decode-2.ensures.value
    (unless _ c.is_finished.ensures c.if-not-is_finished.true) v.place v.guest v.proof (rw (c.new-at.ensures, c.rest.ensures) content)
