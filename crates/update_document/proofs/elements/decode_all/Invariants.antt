use Rattle.std.proofs.Common.{length}
use Rattle.update_document.proofs.ElementsReading.{ReadSoFar}
use Rattle.update_document.proofs.elements.decode_all.Given as goal

abbrev pub invariant-loop-cursor : goal.invariant-loop-cursor
invariant-loop-cursor g l = ReadSoFar g.T.Decode.Reads l.content l.cursor l.values.items

abbrev pub decreases-loop-cursor : goal.decreases-loop-cursor
decreases-loop-cursor g l = length l.cursor
