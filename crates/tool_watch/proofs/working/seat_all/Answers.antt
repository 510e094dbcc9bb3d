use Rattle.std.proofs.Common.{◌≡◌, ◌∙◌, ap, sym, subst, arith, All, [], ◌∷◌, vec_len, vec_capacity, List, ℕ}
use Rattle.std.proofs.lemmas.List.Elements.{All-push}
use Rattle.std.specs.Prelude.{Vec}
use Rattle.std.specs.Global.{Global}
use Rattle.identity_source.specs.State.{opening}
use Rattle.identity_source.specs.Reader.{PlainReader}
use Rattle.tool_watch.specs.Seen.{HasRoom, IsReady}
use Rattle.tool_watch.specs.declared.working.Job.{Job}
use Rattle.tool_watch.proofs.Told.{all_front}
use Rattle.tool_watch.proofs.working.seat_all.Goals as goal

pub loop-reader-preserved : goal.loop-reader-preserved
loop-reader-preserved c =
    let inv = c.loop-reader.invariant in
    let job = c.in_ok-job.job in
    let room : HasRoom c.args.queries job = record {
      empty = ap (λ (v : Vec ℕ Global). vec_len v) c.in_ok-job.ensures.room ∙ c.in_ok-seen.ensures.len;
      room = omega (arith, ap (λ (v : Vec ℕ Global). vec_capacity v) c.in_ok-job.ensures.room, c.in_ok-seen.ensures.exact);
    } in
    let ready : IsReady c.args.source.now.list c.args.queries job = record {
      at = c.in_ok-job.ensures.at ∙ ap (λ s. s.list) inv.same;
      room = room;
    } in
    record {
      count = omega (arith, inv.count, c.in-Some.ensures.cases, c.in_ok-push.ensures.len);
      opened = all_front (λ (r : PlainReader). (r.sight.name ≡ c.args.source.now.name) × (r.list ≡ opening 0 ∷ [])) _ _ _ c.in-Some.ensures.items inv.opened;
      ready = subst (λ (js : List Job). All (IsReady c.args.source.now.list c.args.queries) js) (sym c.in_ok-push.ensures.items)
          (All-push (IsReady c.args.source.now.list c.args.queries) c.loop-reader.jobs.items job inv.ready ready);
      same = c.seat.ensures.same ∙ inv.same;
    }
