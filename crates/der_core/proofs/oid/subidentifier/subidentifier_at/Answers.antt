-- Reading goes on as at the first byte, until it ends.
use Rattle.std.proofs.Common.{◌≡◌, ◌+◌, ◌-◌, ◌%◌, ℕ, length, get_or, take, drop, sym, ◌∙◌, arith, List}
use Rattle.std.proofs.lemmas.Bool.{eqb-true}
use Rattle.std.proofs.lemmas.List.{take_all, length-drop}
use Rattle.der_core.specs.LengthLaws.{IsBytes}
use Rattle.der_core.proofs.Subidentifiers.{read_front, read_none, read_none_at, read_some_at, read_more_at, read_end_at, none_empty, none_zero}
use Rattle.der_core.proofs.oid.subidentifier.subidentifier_at.Goals as goal
use Rattle.der_core.proofs.oid.subidentifier.subidentifier_at.Goals.{then-is_empty-via-then-is_empty, then-is_empty-via-else-is_empty+then-bytes}

pub returns-then-is_empty-clause-none : goal.returns-then-is_empty-clause-none
returns-then-is_empty-clause-none c =
    elim c.then-is_empty.branch [
      | then-is_empty-via-then-is_empty w ↦ none_empty c.args.bytes.now
          (omega (arith, eqb-true (length c.args.bytes.now) 0 (sym c.is_empty.ensures ∙ w.if-is_empty.true)))
      | then-is_empty-via-else-is_empty+then-bytes w ↦ none_zero c.args.bytes.now w.if-bytes.true
    ]

pub returns-then-number-ge4294967296-clause-none : goal.returns-then-number-ge4294967296-clause-none
returns-then-number-ge4294967296-clause-none c =
    read_none c.args.bytes.now (sym c.loop-i.invariant.goes_on ∙ read_none_at c.loop-i.number c.loop-i.i c.args.bytes.now c.loop-i-test.true (omega arith))

pub returns-then-byte-lt128-clause-found : goal.returns-then-byte-lt128-clause-found
unfolding IsBytes
returns-then-byte-lt128-clause-found c =
    let s : List ℕ = c.args.bytes.now in
    let i : ℕ = c.loop-i.i in
    let bytes : IsBytes c.args.bytes.now = λ i. omega (arith, c.type_inv.bytes i) in
    let digit : c.from.result ≡ get_or c.args.bytes.now c.loop-i.i 0 % 128 = c.from.ensures in
    let some = sym c.loop-i.invariant.goes_on ∙ read_some_at c.loop-i.number i s c.loop-i-test.true (omega arith) c.if-byte-lt128.true in
    let all : take (length c.args.bytes.now - (c.loop-i.i + 1)) (drop (c.loop-i.i + 1) c.args.bytes.now) ≡ drop (c.loop-i.i + 1) c.args.bytes.now =
    take_all _ (drop (i + 1) s) (omega (arith, length-drop (i + 1) s)) in
    rw (all, digit) (read_front s _ bytes c.if-bytes.false some).0

pub loop-i-preserved : goal.loop-i-preserved
loop-i-preserved c =
    let digit : c.from.result ≡ get_or c.args.bytes.now c.loop-i.i 0 % 128 = c.from.ensures in
    record {
      small = c.if-number-ge4294967296.false;
      goes_on = rw digit (sym (read_more_at c.loop-i.number c.loop-i.i c.args.bytes.now c.loop-i-test.true (omega arith) c.if-byte-lt128.false)
          ∙ c.loop-i.invariant.goes_on);
    }

pub returns-clause-none : goal.returns-clause-none
returns-clause-none c =
    read_none c.args.bytes.now (sym c.loop-i.invariant.goes_on ∙ read_end_at c.loop-i.number c.loop-i.i c.args.bytes.now c.loop-i-test.false)
