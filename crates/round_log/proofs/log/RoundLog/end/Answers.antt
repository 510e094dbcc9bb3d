use Rattle.std.proofs.Common.{◌≡◌, ◌+◌, sym, ◌∙◌, ap, length, length-append, arith}
use Rattle.round_log.specs.Rounds.{counter_of}
use Rattle.round_log.proofs.Steps.{ends_moves}
use Rattle.round_log.proofs.log.RoundLog.end.Goals as goal

pub compare_exchange-self-inside-requires : goal.compare_exchange-self-inside-requires
compare_exchange-self-inside-requires g c =
    let h = c.self.invariant.counter_is in let t = c.trial.invariant in let offer = c.plain-offer.ensures in
    let same = ap (λ l. l.book) c.trial.view_is ∙ (c.requires ∙ sym (ap (λ l. l.book) c.self.view_is)) in (
      ap (λ w. w.tracked) h,
      same ∙ sym (ap (λ w. w.book) h),
      t.same ∙ (same ∙ sym (ap (λ w. w.book) h)),
      offer.0,
      rw (ap (λ w. w.key) h, t.pen_is) (ends_moves c.trial.inside.seen.log c.plain-offer.result.ask c.plain-offer.result.state c.trial.inside.length
          t.rounds (sym t.length_is) t.odd),
    )

pub invariant_of-self : goal.invariant_of-self
invariant_of-self g c =
    let h = c.self.invariant.counter_is in let t = c.trial.invariant in let after = c.compare_exchange-self-inside.ensures in
    let same = ap (λ l. l.book) c.trial.view_is ∙ (c.requires ∙ sym (ap (λ l. l.book) c.self.view_is)) in
    let long : length c.compare_exchange-self-inside.new.seen.log ≡ length c.trial.inside.seen.log + 1 = ap length after.7
    ∙ length-append c.trial.inside.seen.log _ in
    record {
      rounds = t.rounds + 1;
      counter_is = h ∙ ap counter_of (sym (after.0 ∙ same));
      length_is = omega (arith, long, t.length_is);
      even = omega (arith, t.odd);
    }
