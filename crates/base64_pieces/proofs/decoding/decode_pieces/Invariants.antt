use Rattle.std.proofs.Common.{drop, sum}
use Rattle.base64_pieces.proofs.PiecesLemmas.{IsDone}
use Rattle.base64_pieces.proofs.decoding.decode_pieces.Given as goal

abbrev pub invariant-loop-length : goal.invariant-loop-length
invariant-loop-length g l = IsDone l.fn.decoder l.decoder l.fn.bytes.items l.bytes.items (drop l.length-index l.lengths) (sum l.fn.lengths)
