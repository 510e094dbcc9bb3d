use Rattle.std.proofs.Common.{◌≡◌, ◌-◌, [], ◌++◌, length, take, drop, arith, ap, ◌∙◌, length-append, length-drop, vec_len, replicate}
use Rattle.std.proofs.lemmas.List.{drop_all, length-take-le}
use borrow.Rule.Slice.PartMut.{post_of}
use Rattle.base64ct.proofs.DecoderLemmas.{appended, front_of}
use Rattle.base64ct.proofs.TakenLemmas.{all_taken, append_error, no_take, none_left}
use Rattle.base64ct.proofs.decoder.Decoder.append_to.Goals as goal

pub returns-in-Ok-clause-bytes : goal.returns-in-Ok-clause-bytes
returns-in-Ok-clause-bytes g c =
    let ok = c.args.buf.now.ok in
    let ok' = c.resize.new.self.ok in
    let all = c.self.invariant.0 in
    let left = ap length c.self.view_is in
    let begin = c.len-start.ensures in
    let end = c.in-Some.ensures in
    let long = c.deref_mut.ensures.len in
    let size = c.in_ok-resize.ensures.len in
    let cut : length (drop c.len-start.result c.deref_mut.result.now) ≡ length c.deref_mut.result.now - c.len-start.result =
    length-drop c.len-start.result c.deref_mut.result.now in
    let part : length (take (length c.deref_mut.result.now - c.len-start.result) (drop c.len-start.result c.deref_mut.result.now))
    ≡ length c.deref_mut.result.now - c.len-start.result
    = length-take-le (length c.deref_mut.result.now - c.len-start.result) (drop c.len-start.result c.deref_mut.result.now) (omega arith) in
    let room : length (take (length c.deref_mut.result.now - c.len-start.result) (drop c.len-start.result c.deref_mut.result.now))
    ≡ length c.args.self.now = omega arith in
    let many : length c.fill.new.out ≡ length c.args.self.now = c.fill.auto.out ∙ room in
    let resized : c.deref_mut.result.now ≡ take c.in-Some.end c.args.buf.now.items ++ replicate (c.in-Some.end - vec_len c.args.buf.now) 0 =
    c.deref_mut.ensures.value ∙ c.in_ok-resize.ensures.items in
    let front : take c.len-start.result c.deref_mut.result.now ≡ c.args.buf.now.items = ap (take c.len-start.result) resized
    ∙ front_of c.args.buf.now.items (replicate (c.in-Some.end - vec_len c.args.buf.now) 0) c.len-start.result c.in-Some.end (omega arith) (omega arith) in
    let none : post_of c.len-start.result (length c.deref_mut.result.now - c.len-start.result) c.deref_mut.result.now ≡ []
    = drop_all (length c.deref_mut.result.now - c.len-start.result) (drop c.len-start.result c.deref_mut.result.now) (omega arith) in
    let l1 = ap length front in
    let l2 = length-append (take c.len-start.result c.deref_mut.result.now)
    (c.fill.new.out ++ post_of c.len-start.result (length c.deref_mut.result.now - c.len-start.result) c.deref_mut.result.now) in
    let l3 = length-append c.fill.new.out (post_of c.len-start.result (length c.deref_mut.result.now - c.len-start.result) c.deref_mut.result.now) in (
      c.fill.new.out,
      c.in-Ok.ensures.bytes,
      all_taken c.args.self.now c.fill.new.self c.fill.new.out c.in-Ok.ensures.items many,
      appended c.deref_mut.result.now c.args.buf.now.items c.fill.new.out _ _ c.len-start.result c.resize.new.self.len front none
          (drop_all (length (take c.len-start.result c.deref_mut.result.now
          ++ (c.fill.new.out ++ post_of c.len-start.result (length c.deref_mut.result.now - c.len-start.result) c.deref_mut.result.now)))
          c.resize.new.self.items (omega arith)) (omega arith),
    )

pub returns-in-Ok-clause-none_left : goal.returns-in-Ok-clause-none_left
returns-in-Ok-clause-none_left g c =
    let all = c.self.invariant.0 in
    let left = ap length c.self.view_is in
    let begin = c.len-start.ensures in
    let end = c.in-Some.ensures in
    let long = c.deref_mut.ensures.len in
    let size = c.in_ok-resize.ensures.len in
    let cut : length (drop c.len-start.result c.deref_mut.result.now) ≡ length c.deref_mut.result.now - c.len-start.result =
    length-drop c.len-start.result c.deref_mut.result.now in
    let part : length (take (length c.deref_mut.result.now - c.len-start.result) (drop c.len-start.result c.deref_mut.result.now))
    ≡ length c.deref_mut.result.now - c.len-start.result
    = length-take-le (length c.deref_mut.result.now - c.len-start.result) (drop c.len-start.result c.deref_mut.result.now) (omega arith) in
    let room : length (take (length c.deref_mut.result.now - c.len-start.result) (drop c.len-start.result c.deref_mut.result.now))
    ≡ length c.args.self.now = omega arith in
    none_left c.args.self.now c.fill.new.self c.fill.new.out c.in-Ok.ensures.items (c.fill.auto.out ∙ room)

pub returns-in-Err-clause-err : goal.returns-in-Err-clause-err
returns-in-Err-clause-err g c =
    let all = c.self.invariant.0 in
    let left = ap length c.self.view_is in
    let begin = c.len-start.ensures in
    let end = c.in-Some.ensures in
    let long = c.deref_mut.ensures.len in
    let size = c.in_ok-resize.ensures.len in
    let cut : length (drop c.len-start.result c.deref_mut.result.now) ≡ length c.deref_mut.result.now - c.len-start.result =
    length-drop c.len-start.result c.deref_mut.result.now in
    let part : length (take (length c.deref_mut.result.now - c.len-start.result) (drop c.len-start.result c.deref_mut.result.now))
    ≡ length c.deref_mut.result.now - c.len-start.result
    = length-take-le (length c.deref_mut.result.now - c.len-start.result) (drop c.len-start.result c.deref_mut.result.now) (omega arith) in
    let room : length (take (length c.deref_mut.result.now - c.len-start.result) (drop c.len-start.result c.deref_mut.result.now))
    ≡ length c.args.self.now = omega arith in
    append_error c.args.self.now (vec_len c.args.buf.now) _ c.in-Err.error c.in-Err.ensures.err room (omega arith)

pub returns-in-Err-clause-no_bytes : goal.returns-in-Err-clause-no_bytes
returns-in-Err-clause-no_bytes g c _ b is =
    let all = c.self.invariant.0 in
    let left = ap length c.self.view_is in
    let begin = c.len-start.ensures in
    let end = c.in-Some.ensures in
    let long = c.deref_mut.ensures.len in
    let size = c.in_ok-resize.ensures.len in
    let cut : length (drop c.len-start.result c.deref_mut.result.now) ≡ length c.deref_mut.result.now - c.len-start.result =
    length-drop c.len-start.result c.deref_mut.result.now in
    let part : length (take (length c.deref_mut.result.now - c.len-start.result) (drop c.len-start.result c.deref_mut.result.now))
    ≡ length c.deref_mut.result.now - c.len-start.result
    = length-take-le (length c.deref_mut.result.now - c.len-start.result) (drop c.len-start.result c.deref_mut.result.now) (omega arith) in
    let room : length (take (length c.deref_mut.result.now - c.len-start.result) (drop c.len-start.result c.deref_mut.result.now))
    ≡ length c.args.self.now = omega arith in
    no_take c.args.self.now _ c.in-Err.error b c.in-Err.ensures.err room is
