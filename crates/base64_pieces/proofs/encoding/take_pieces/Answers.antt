use Rattle.std.proofs.Common.{◌≡◌, ◌+◌, ◌<◌, drop, false, length, rules, true}
use Rattle.std.proofs.lemmas.Result.{err_from_is_err_and}
use Rattle.std.specs.List.{flat_map}
use Rattle.base64_pieces.proofs.FrontLemmas.{one_more, refused_sooner}
use Rattle.base64_pieces.proofs.encoding.take_pieces.Goals as goal

pub returns-in_err-encode-clause-err : goal.returns-in_err-encode-clause-err
returns-in_err-encode-clause-err g c =
    let p = err_from_is_err_and c.from_residual.result c.from_residual.ensures.1 in
    let here : c.loop-piece.piece-index < length c.args.pieces.now = search rules in
    let inv = c.loop-piece.invariant in
    rw (p.1, p.2) (
      c.in_err-encode.ensures.err,
      rw (← inv.1, ← inv.2) (refused_sooner _ _ _ _ _ (flat_map (λ piece. piece.now) (drop (c.loop-piece.piece-index + 1) c.args.pieces.now)) _ _
          (rw inv.2 c.requires) (one_more (λ piece. piece.now) c.args.pieces.now c.loop-piece.piece-index _ c.loop-piece.encoder.taken _ here inv.0)
          (λ le. let h : false ≡ true = c.in_err-encode.ensures.fits.1 le in cc)),
    )
