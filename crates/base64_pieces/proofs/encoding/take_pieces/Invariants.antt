use Rattle.std.proofs.Common.{◌≡◌, ◌++◌, drop}
use Rattle.std.specs.List.{flat_map}
use Rattle.base64_pieces.proofs.encoding.take_pieces.Given as goal

abbrev pub invariant-loop-piece : goal.invariant-loop-piece
invariant-loop-piece g l = (l.encoder.taken ++ flat_map (λ piece. piece.now) (drop l.piece-index l.pieces) ≡ l.fn.encoder.taken
    ++ flat_map (λ piece. piece.now) l.fn.pieces)
    × (l.encoder.room ≡ l.fn.encoder.room) × (l.encoder.lines ≡ l.fn.encoder.lines)
