use Rattle.std.proofs.Common.{sym, ◌∙◌, ap, length}
use Rattle.round_log.proofs.Steps.{begins_moves}
use Rattle.round_log.proofs.log.RoundLog.begin.Goals as goal

pub compare_exchange-found-requires : goal.compare_exchange-found-requires
compare_exchange-found-requires g c =
    let h = c.self.invariant.counter_is in let offer = c.plain-offer.ensures in let pen = c.no_pen-pen.ensures in let seen = c.again-seen.ensures in
    let book = ap (λ s. s.book) seen in (
      ap (λ w. w.tracked) h,
      book ∙ sym (ap (λ w. w.book) h),
      pen.0 ∙ (book ∙ sym (ap (λ w. w.book) h)),
      offer.0,
      rw (ap (λ w. w.key) h, pen.1) (begins_moves c.again-seen.result.log c.plain-offer.result.ask c.plain-offer.result.state c.self.inside.length
          c.self.invariant.rounds (ap (λ s. length s.log) seen ∙ sym c.self.invariant.length_is) c.self.invariant.even),
    )
