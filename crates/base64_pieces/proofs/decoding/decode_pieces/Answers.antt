use Rattle.std.proofs.Common.{◌≡◌, ◌∙◌, ◌+◌, ◌≤◌, ◌<◌, ap, drop, inr, length, refl, rules, slice_index_or, sum, sym}
use Rattle.std.proofs.lemmas.List.{drop_all}
use Rattle.std.proofs.lemmas.List.Sums.{sum_by-drop_more}
use Rattle.std.proofs.lemmas.Result.{err_from_is_err_and}
use Rattle.base64_pieces.proofs.PiecesLemmas.{all_done, not_stopped, stopped}
use Rattle.base64_pieces.proofs.decoding.decode_pieces.Goals as goal

pub returns-in_err-decode-clause-err : goal.returns-in_err-decode-clause-err
returns-in_err-decode-clause-err g c =
    let p = err_from_is_err_and c.from_residual-in_err-decode.result c.from_residual-in_err-decode.ensures.1 in
    let len : length c.deref_mut.result.now ≡ slice_index_or c.args.lengths.now c.loop-length.length-index 0 = search rules in
    let here : c.loop-length.length-index < length c.args.lengths.now = search rules in
    let split = sum_by-drop_more (λ n. n) c.args.lengths.now c.loop-length.length-index 0 here
    ∙ ap (λ n. n + sum (drop (c.loop-length.length-index + 1) c.args.lengths.now)) (sym len) in
    rw (p.1, p.2) (inr (stopped c.args.decoder.now c.loop-length.decoder c.args.bytes.now.items c.loop-length.bytes.items
    (drop c.loop-length.length-index c.args.lengths.now) (sum c.args.lengths.now)
    (length c.deref_mut.result.now) (sum (drop (c.loop-length.length-index + 1) c.args.lengths.now)) _ c.loop-length.invariant split
    c.in_err-decode.ensures.err))

pub returns-in_err-decode-clause-whole : goal.returns-in_err-decode-clause-whole
returns-in_err-decode-clause-whole g c = λ b is fits ok.
    let len : length c.deref_mut.result.now ≡ slice_index_or c.args.lengths.now c.loop-length.length-index 0 = search rules in
    let here : c.loop-length.length-index < length c.args.lengths.now = search rules in
    let split = sum_by-drop_more (λ n. n) c.args.lengths.now c.loop-length.length-index 0 here
    ∙ ap (λ n. n + sum (drop (c.loop-length.length-index + 1) c.args.lengths.now)) (sym len) in
    absurd (not_stopped c.args.decoder.now b (sum c.args.lengths.now) _
    (stopped c.args.decoder.now c.loop-length.decoder c.args.bytes.now.items c.loop-length.bytes.items
    (drop c.loop-length.length-index c.args.lengths.now) (sum c.args.lengths.now) (length c.deref_mut.result.now)
    (sum (drop (c.loop-length.length-index + 1) c.args.lengths.now)) _
    c.loop-length.invariant split c.in_err-decode.ensures.err) is fits)

pub returns-clause-whole : goal.returns-clause-whole
returns-clause-whole g c = λ b is fits ok.
    let over : length c.args.lengths.now ≤ c.loop-length.length-index = search rules in (
      refl,
      all_done c.args.decoder.now c.loop-length.decoder c.args.bytes.now.items c.loop-length.bytes.items
          (drop c.loop-length.length-index c.args.lengths.now) b (sum c.args.lengths.now)
          c.loop-length.invariant (ap sum (drop_all c.loop-length.length-index c.args.lengths.now over)) is,
    )
