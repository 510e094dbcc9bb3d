-- Reading digits goes on as at the first byte, until it ends.
use Rattle.std.proofs.Common.{◌≡◌, ◌<◌, ◌≤◌, ◌-◌, ℕ, List, [], length, get_or, take, drop, sym, ap, ◌∙◌, arith}
use Rattle.std.proofs.lemmas.Bool.{eqb-true}
use Rattle.std.proofs.lemmas.List.{take_all, drop_all, length-drop, nil_from_length}
use Rattle.der_core.proofs.Decimals.{digits_found, digits_none, digits_end_at, digits_none_at, digits_more_at, digits_all_at, number_head, leading_zero}
use Rattle.der_core.proofs.Decimals.{zero_found}
use Rattle.der_core.proofs.oid.text.number_at.Goals as goal
use Rattle.der_core.proofs.oid.text.number_at.Goals.{then-is_empty-via-then-is_empty, then-is_empty-via-else-is_empty+then-not-is_digit}

pub returns-then-is_empty-clause-none : goal.returns-then-is_empty-clause-none
returns-then-is_empty-clause-none c =
    elim c.then-is_empty.branch [
      | then-is_empty-via-then-is_empty w ↦
          let none : length c.args.text.now ≡ 0 = eqb-true (length c.args.text.now) 0 (sym c.is_empty.ensures ∙ w.if-is_empty.true) in
          let first : get_or c.args.text.now 0 0 ≡ 0 = ap (λ (s : List ℕ). get_or s 0 0) (nil_from_length c.args.text.now none) in
          number_head c.args.text.now (λ h _. omega arith)
      | then-is_empty-via-else-is_empty+then-not-is_digit w ↦ number_head c.args.text.now w.if-not-is_digit.ensures.other
    ]

pub returns-then-is_digit-clause-none : goal.returns-then-is_digit-clause-none
returns-then-is_digit-clause-none c = leading_zero c.args.text.now c.if-text-eq48.true c.if-is_digit.ensures.digit.0 c.if-is_digit.ensures.digit.1

pub returns-else-text-gt1-clause-found : goal.returns-else-text-gt1-clause-found
returns-else-text-gt1-clause-found c =
    let some : 0 < length c.args.text.now = grind (arith, c.is_empty.ensures, c.if-is_empty.false) in
    let all : take (length c.args.text.now - 1) (drop 1 c.args.text.now) ≡ drop 1 c.args.text.now =
    take_all _ (drop 1 c.args.text.now) (omega (arith, length-drop 1 c.args.text.now)) in
    rw all (zero_found c.args.text.now c.if-text-eq48.true some)

pub returns-then-not-is_digit-2-clause-found : goal.returns-then-not-is_digit-2-clause-found
returns-then-not-is_digit-2-clause-found c =
    let low : 48 ≤ get_or c.args.text.now 0 0 = c.if-not-is_digit.ensures.digit.0 in
    let not_zero : get_or c.args.text.now 0 0 ≡ 48 → ⊥ = c.if-text-eq48.false in
    let found = sym c.loop-i.invariant.goes_on ∙ digits_end_at c.loop-i.number c.loop-i.i c.args.text.now c.loop-i-test.true
    c.if-not-is_digit-2.ensures.other in
    let all : take (length c.args.text.now - c.loop-i.i) (drop c.loop-i.i c.args.text.now) ≡ drop c.loop-i.i c.args.text.now =
    take_all _ (drop c.loop-i.i c.args.text.now) (omega (arith, length-drop c.loop-i.i c.args.text.now)) in
    rw all (digits_found c.args.text.now _ (omega arith) c.if-not-is_digit.ensures.digit.1 found).is

pub returns-then-number-ge4294967296-clause-none : goal.returns-then-number-ge4294967296-clause-none
returns-then-number-ge4294967296-clause-none c =
    let digit : c.from.result ≡ get_or c.args.text.now c.loop-i.i 0 - 48 = c.from.ensures in
    digits_none c.args.text.now (sym c.loop-i.invariant.goes_on
    ∙ digits_none_at c.loop-i.number c.loop-i.i c.args.text.now c.loop-i-test.true c.if-not-is_digit-2.ensures.digit.0
    c.if-not-is_digit-2.ensures.digit.1 (omega arith))

pub loop-i-preserved : goal.loop-i-preserved
loop-i-preserved c =
    let digit : c.from.result ≡ get_or c.args.text.now c.loop-i.i 0 - 48 = c.from.ensures in
    record {
      small = c.if-number-ge4294967296.false;
      goes_on = rw digit (sym (digits_more_at c.loop-i.number c.loop-i.i c.args.text.now c.loop-i-test.true c.if-not-is_digit-2.ensures.digit.0
          c.if-not-is_digit-2.ensures.digit.1 (omega arith)) ∙ c.loop-i.invariant.goes_on);
    }

pub returns-clause-found : goal.returns-clause-found
returns-clause-found c =
    let s : List ℕ = c.args.text.now in
    let low : 48 ≤ get_or c.args.text.now 0 0 = c.if-not-is_digit.ensures.digit.0 in
    let not_zero : get_or c.args.text.now 0 0 ≡ 48 → ⊥ = c.if-text-eq48.false in
    let found = sym c.loop-i.invariant.goes_on ∙ digits_all_at c.loop-i.number c.loop-i.i s c.loop-i-test.false in
    let end : take (length c.args.text.now - length c.args.text.now) (drop (length c.args.text.now) c.args.text.now) ≡ [] =
    ap (λ (x : List ℕ). take (length c.args.text.now - length c.args.text.now) x) (drop_all (length s) s (omega arith)) ∙ take_all _ [] (omega arith) in
    rw end (digits_found s _ (omega arith) c.if-not-is_digit.ensures.digit.1 found).is
