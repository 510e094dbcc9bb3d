use Rattle.bundle_document.specs.Keys.{is_jwt_key, is_named}
use Rattle.bundle_document.proofs.KeyLemmas.{all_more, so_far_more, whole_more}
use Rattle.bundle_document.proofs.bundle.keys_of.Goals as goal

pub loop-authority-preserved : goal.loop-authority-preserved
loop-authority-preserved c =
    let was = c.loop-authority.invariant in
    record {
      so_far = rw c.in_ok-push.ensures.items (so_far_more c.loop-authority.keys.items c.in_ok-key.key c.deref.result.now c.next.new.self _
          (rw c.deref.ensures (rw c.in-Some.ensures.steps at was.so_far)) c.in_ok-key.ensures.value);
      whole = rw c.in_ok-push.ensures.items (whole_more c.loop-authority.keys.items c.in_ok-key.key was.whole c.in_ok-key.ensures.whole);
      jwt = rw c.in_ok-push.ensures.items (all_more is_jwt_key c.loop-authority.keys.items c.in_ok-key.key was.jwt c.in_ok-key.ensures.jwt);
      named = rw c.in_ok-push.ensures.items (all_more is_named c.loop-authority.keys.items c.in_ok-key.key was.named c.in_ok-key.ensures.named);
    }
