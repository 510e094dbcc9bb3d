use Rattle.std.proofs.Common.{◌≡◌, ◌∷◌, ◌++◌, [], rules}
use Rattle.update_document.proofs.ElementsReading.{front_shorter, no_elements, one_read}
use Rattle.der_core.specs.SequenceLaws.{unless}
use Rattle.update_document.proofs.elements.decode_all.Goals as goal

pub returns-in_default-clause-none : goal.returns-in_default-clause-none
returns-in_default-clause-none g c = λ _ values are.
    no_elements g.T.Decode.Reads c.args.content.now c.loop-cursor.cursor c.loop-cursor.values.items values c.loop-cursor.invariant
    (unless _ c.is_finished.ensures c.loop-cursor-test.true) c.in_default.ensures.none are

pub loop-cursor-smaller : goal.loop-cursor-smaller
loop-cursor-smaller g c = front_shorter g.T.Decode.Reads c.loop-cursor.cursor c.decode.new.cursor c.in-Ok.value
    (g.met.T.Decode c.lifetimes (search rules)).one_value c.in-Ok.ensures.value

pub loop-cursor-preserved : goal.loop-cursor-preserved
loop-cursor-preserved g c =
    let pushed : c.push.new.self.items ≡ c.loop-cursor.values.items ++ c.in-Ok.value ∷ [] = search rules in
    rw pushed (one_read g.T.Decode.Reads c.args.content.now c.loop-cursor.cursor c.decode.new.cursor c.loop-cursor.values.items c.in-Ok.value
    (g.met.T.Decode c.lifetimes (search rules)).one_value c.loop-cursor.invariant c.in-Ok.ensures.value)
