use Rattle.std.proofs.Common.{◌≡◌, ℕ, List, length, drop, arith, ap, sym, ◌∙◌, map, Option, Some, length-append, length-drop, subst}
use Rattle.std.proofs.lemmas.List.{length-take-le, take_at}
use Rattle.std.specs.Io.KnownBytes.{Consumes}
use Rattle.base64ct.specs.Items.{known_bytes}
use Rattle.base64ct.proofs.DecoderLemmas.{length-map_some}
use Rattle.base64ct.proofs.TakenLemmas.{at_end_of, consumed, on_err, read_error}
use Rattle.base64ct.proofs.decoder.DecoderRead.read.Goals as goal

pub returns-in_err-fill-clause-err : goal.returns-in_err-fill-clause-err
returns-in_err-fill-clause-err g c =
    let all = c.self.invariant.0 in
    let left = ap length c.self.view_is in
    let len = length-take-le c.min-n.result c.args.buf.now (omega arith) in
    on_err _ c.from_residual.result (read_error c.args.self.now _ (length c.args.buf.now) _ c.in_err-fill.ensures.err (omega arith) (omega arith)
    (λ lt. omega arith))

pub returns-clause-bytes : goal.returns-clause-bytes
returns-clause-bytes g c =
    let all = c.self.invariant.0 in
    let left = ap length c.self.view_is in
    let len : length c.fill.new.out ≡ c.min-n.result = c.fill.auto.out ∙ length-take-le c.min-n.result c.args.buf.now (omega arith) in
    let count = ap length c.in_ok-fill.ensures.items ∙ length-append (map {A = ℕ} {B = Option ℕ} Some c.fill.new.out) c.fill.new.self in
    let given = length-map_some c.fill.new.out in
    let both = length-append c.fill.new.out (drop c.min-n.result c.args.buf.now) in
    let rest = length-drop c.min-n.result c.args.buf.now in (
      subst (λ (us : List ℕ). Consumes (known_bytes c.args.self.now) (known_bytes c.fill.new.self) us)
          (sym (take_at c.fill.new.out (drop c.min-n.result c.args.buf.now) c.min-n.result len))
          (consumed c.args.self.now c.fill.new.self c.fill.new.out c.in_ok-fill.ensures.items),
      λ nothing some. at_end_of c.fill.new.self (omega arith),
    )
