-- Which contents have the text, step by step.
use Rattle.std.proofs.Common.{◌≡◌, ◌<◌, ◌≤◌, ◌+◌, ◌^◌, ◌++◌, ◌∷◌, ℕ, List, length, sym, ap, ◌∙◌, arith, append_assoc, length-append, subst}
use Rattle.std.proofs.lemmas.Bool.{eqb-false}
use Rattle.std.specs.Fmt.{decimal}
use Rattle.der_core.specs.Oid.{subidentifier_bytes, oid_text, second_arc}
use Rattle.der_core.proofs.Subidentifiers.{some_bytes}
use Rattle.der_core.proofs.Texts.{Continues, no_first, no_second, no_joined, continues_first, no_next, no_room, are_push, are_one, text_push, text_one}
use Rattle.der_core.proofs.Texts.{continues_next, continues_length, if_none}
use Rattle.der_core.proofs.oid.text.content_of.Goals as goal

pub returns-in_err-first-clause-none : goal.returns-in_err-first-clause-none
returns-in_err-first-clause-none c = if_none c.from_residual.result (no_first c.args.text.now c.in_err-first.ensures.none)

pub returns-in_err-second-clause-none : goal.returns-in_err-second-clause-none
returns-in_err-second-clause-none c =
    if_none c.from_residual-in_err-second.result (no_second c.args.text.now c.in_ok-first.rest.now c.in_ok-first.first c.in_ok-first.ensures.found
    c.in_ok-first.ensures.small c.in_ok-first.ensures.ended c.in_err-second.ensures.none)

pub returns-in_err-joined-clause-none : goal.returns-in_err-joined-clause-none
returns-in_err-joined-clause-none c =
    if_none c.from_residual-in_err-joined.result (no_joined c.args.text.now c.in_ok-first.rest.now c.in_ok-second.rest.now c.in_ok-first.first
    c.in_ok-second.second c.in_ok-first.ensures.found c.in_ok-first.ensures.small c.in_ok-first.ensures.ended c.in_ok-second.ensures.found
    c.in_ok-second.ensures.small c.in_ok-second.ensures.ended c.in_err-joined.ensures.none)

pub returns-then-not-push-clause-none : goal.returns-then-not-push-clause-none
returns-then-not-push-clause-none c = λ content ok same.
    let n : ℕ = c.in_ok-joined.field-0 in
    let only = continues_first c.args.text.now c.in_ok-first.rest.now c.in_ok-second.rest.now c.in_ok-first.first c.in_ok-second.second n
    c.in_ok-first.ensures.found c.in_ok-first.ensures.small c.in_ok-first.ensures.ended c.in_ok-second.ensures.found c.in_ok-second.ensures.small
    c.in_ok-second.ensures.ended c.in_ok-joined.ensures.first c.in_ok-joined.ensures.second c.in_ok-joined.ensures.small content ok same in
    let long : length (subidentifier_bytes c.in_ok-joined.field-0) ≤ length content =
    continues_length content (subidentifier_bytes n) c.in_ok-second.rest.now ok (are_one n c.in_ok-joined.ensures.small) only in
    let short : length content ≤ 39 = ok.short in
    let empty : length c.new-content.result.items ≡ 0 = ap length c.new-content.ensures in
    let full : 39 < length c.new-content.result.items + length (subidentifier_bytes c.in_ok-joined.field-0) = c.if-not-push.ensures.full in
    omega arith

pub loop-rest-init : goal.loop-rest-init
loop-rest-init c =
    let n : ℕ = c.in_ok-joined.field-0 in
    let is : c.push.new.content.items ≡ subidentifier_bytes c.in_ok-joined.field-0 = c.if-not-push.ensures.pushed
    ∙ ap (λ (s : List ℕ). s ++ subidentifier_bytes n) c.new-content.ensures in
    let text : oid_text (subidentifier_bytes n) ≡ decimal c.in_ok-first.first ++ (46 ∷ decimal c.in_ok-second.second) =
    text_one n c.in_ok-joined.ensures.small
    ∙ ap (λ (k : ℕ). decimal k ++ (46 ∷ decimal (second_arc n))) (sym c.in_ok-joined.ensures.first)
    ∙ ap (λ (k : ℕ). decimal c.in_ok-first.first ++ (46 ∷ decimal k)) (sym c.in_ok-joined.ensures.second) in
    record {
      spelt = rw is (are_one n c.in_ok-joined.ensures.small);
      some = rw is (some_bytes n);
      short = c.if-not-push.ensures.room;
      text = c.in_ok-first.ensures.found ∙ ap (λ (s : List ℕ). decimal c.in_ok-first.first ++ s) c.in_ok-second.ensures.found
          ∙ sym (append_assoc (decimal c.in_ok-first.first) (46 ∷ decimal c.in_ok-second.second) c.in_ok-second.rest.now)
          ∙ ap (λ (s : List ℕ). s ++ c.in_ok-second.rest.now) (sym text ∙ ap oid_text (sym is));
      ends = c.in_ok-second.ensures.ended;
      only = λ content ok same.
          let P : List ℕ → Type 0 = λ s. Continues content s c.in_ok-second.rest.now in
          subst P (sym is) (continues_first c.args.text.now c.in_ok-first.rest.now c.in_ok-second.rest.now c.in_ok-first.first c.in_ok-second.second n
          c.in_ok-first.ensures.found c.in_ok-first.ensures.small c.in_ok-first.ensures.ended c.in_ok-second.ensures.found c.in_ok-second.ensures.small
          c.in_ok-second.ensures.ended c.in_ok-joined.ensures.first c.in_ok-joined.ensures.second c.in_ok-joined.ensures.small content ok same);
    }

pub returns-in_err-number-clause-none : goal.returns-in_err-number-clause-none
returns-in_err-number-clause-none c =
    let some : length c.loop-rest.rest.now ≡ 0 → ⊥ = eqb-false (length c.loop-rest.rest.now) 0 (sym c.is_empty.ensures ∙ c.loop-rest-test.true) in
    if_none c.from_residual-in_err-number.result (λ content ok same. no_next content c.loop-rest.content.items c.loop-rest.rest.now ok
    (c.loop-rest.invariant.only content ok same) (omega arith) c.in_err-number.ensures.none)

pub returns-then-not-push-2-clause-none : goal.returns-then-not-push-2-clause-none
returns-then-not-push-2-clause-none c = λ content ok same.
    no_room content c.loop-rest.content.items c.loop-rest.rest.now c.in_ok-number.after.now c.in_ok-number.number ok c.loop-rest.invariant.spelt
    (c.loop-rest.invariant.only content ok same) c.in_ok-number.ensures.found c.in_ok-number.ensures.small c.in_ok-number.ensures.ended
    c.if-not-push-2.ensures.full

pub loop-rest-preserved : goal.loop-rest-preserved
loop-rest-preserved c =
    let n : ℕ = c.in_ok-number.number in
    let before : List ℕ = c.loop-rest.content.items in
    let small : n < 2 ^ 32 = c.in_ok-number.ensures.small in
    let is : c.push-in-loop-rest.new.content.items ≡ c.loop-rest.content.items ++ subidentifier_bytes c.in_ok-number.number = c.if-not-push-2.ensures.pushed in
    let some : 1 ≤ length c.loop-rest.content.items = c.loop-rest.invariant.some in
    let text = text_push before n c.loop-rest.invariant.spelt some small in
    record {
      spelt = rw is (are_push before n c.loop-rest.invariant.spelt small);
      some = rw is (omega (arith, length-append before (subidentifier_bytes n)));
      short = c.if-not-push-2.ensures.room;
      text = c.loop-rest.invariant.text ∙ ap (λ (s : List ℕ). oid_text before ++ s) c.in_ok-number.ensures.found
          ∙ sym (append_assoc (oid_text before) (46 ∷ decimal n) c.in_ok-number.after.now)
          ∙ ap (λ (s : List ℕ). s ++ c.in_ok-number.after.now) (sym text ∙ ap oid_text (sym is));
      ends = c.in_ok-number.ensures.ended;
      only = λ content ok same.
          let P : List ℕ → Type 0 = λ s. Continues content s c.in_ok-number.after.now in
          subst P (sym is) (continues_next content before c.loop-rest.rest.now c.in_ok-number.after.now n ok c.loop-rest.invariant.spelt
          (c.loop-rest.invariant.only content ok same) c.in_ok-number.ensures.found small c.in_ok-number.ensures.ended);
    }
