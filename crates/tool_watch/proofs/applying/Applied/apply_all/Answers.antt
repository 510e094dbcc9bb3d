use Rattle.std.proofs.Common.{◌≡◌, ◌∙◌, ◌+◌, [], ◌∷◌, ◌++◌, List, ℕ, take, ap, sym, subst}
use Rattle.std.proofs.lemmas.List.{map_more}
use Rattle.std.specs.Prelude.{Vec}
use Rattle.std.specs.Global.{Global}
use Rattle.tool_script.specs.Request.{PlainRequest}
use Rattle.tool_script.specs.Request.PlainRequest.{Update}
use Rattle.tool_watch.specs.Applied.{HaveReplies}
use Rattle.tool_watch.specs.Asked.{updates_in}
use Rattle.tool_watch.proofs.Lists.{one_answered}
use Rattle.tool_watch.proofs.applying.Applied.apply_all.Goals as goal

pub loop-place-preserved : goal.loop-place-preserved
loop-place-preserved g c =
    let so_far : List PlainRequest = updates_in (take c.loop-place.place c.args.texts.now) in
    let more : updates_in (take (c.loop-place.place + 1) c.args.texts.now) ≡ so_far ++ Update c.index-texts-place.result.items ∷ [] =
    map_more (λ (t : Vec ℕ Global). Update t.items) c.args.texts.now c.loop-place.place c.index-texts-place.result c.loop-place-test.true
    ∙ ap (λ (t : Vec ℕ Global). so_far ++ Update t.items ∷ []) (sym c.index-texts-place.is) in
    let same : so_far ++ Update c.deref.result.now ∷ [] ≡ updates_in (take (c.loop-place.place + 1) c.args.texts.now) =
    ap (λ (t : List ℕ). so_far ++ Update t ∷ []) c.deref.ensures.value ∙ sym more in
    let inv = c.loop-place.invariant in
    let done = c.in_ok-apply.ensures in
    record {
      done = subst (λ (us : List PlainRequest). HaveReplies c.args.width c.args.source.now.list us c.apply.new.source.list c.args.self.now.replies.items
          c.apply.new.self.replies.items) same
          (one_answered c.args.width c.args.source.now.list so_far c.loop-place.source.list c.apply.new.source.list c.args.self.now.replies.items
          c.loop-place.self.replies.items c.apply.new.self.replies.items
          c.deref.result.now done.reply.0 inv.done done.reply.1.0 done.reply.1.1);
      kept = done.kept;
      name = done.name ∙ inv.name;
    }
