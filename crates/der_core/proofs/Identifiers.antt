-- Lists of subidentifiers.
use Rattle.std.proofs.Common.{◌≡◌, ℕ, suc, ◌^◌, ◌<◌, List, [], ◌∷◌, ◌++◌, length, refl, ap, sym, subst, ◌∙◌, arith, ◌↔◌, append-nil, map, length-append}
use Rattle.std.proofs.Common.{Option, None, option_to_list}
use Rattle.std.proofs.lemmas.List.{append_cancel_left}
use Rattle.std.proofs.lemmas.List.Elements.{All-cons, All-nil}
use Rattle.std.specs.List.{All, flat_map, join_with_byte}
use Rattle.std.specs.Fmt.{decimal}
use Rattle.der_core.specs.Oid.{subidentifier_bytes, numbers_from, subidentifiers, AreSubidentifiers}
use Rattle.der_core.proofs.Subidentifiers.{numbers_again, some_bytes}

pub All-head : (P : ℕ → Type 0) (n : ℕ) (ns : List ℕ) → All P (n ∷ ns) → P n
All-head P n ns all = all 0 0 (omega arith)

pub All-tail : (P : ℕ → Type 0) (n : ℕ) (ns : List ℕ) → All P (n ∷ ns) → All P ns
All-tail P n ns all = λ k d h. all (suc k) d (omega arith)

-- One more subidentifier in front.
more_of : (n : ℕ) (rest : List ℕ) → n < 2 ^ 32 → AreSubidentifiers (subidentifier_bytes n ++ rest) → AreSubidentifiers rest
more_of n rest small a =
    let e = numbers_again n rest small in
    let all = subst (All (λ n. n < 2 ^ 32)) e a.small in
    record {
      spelt = append_cancel_left (subidentifier_bytes n) rest (flat_map subidentifier_bytes (subidentifiers rest))
          (a.spelt ∙ ap (λ (ns : List ℕ). flat_map subidentifier_bytes ns) e);
      small = All-tail (λ n. n < 2 ^ 32) n (subidentifiers rest) all;
    }

more_from : (n : ℕ) (rest : List ℕ) → n < 2 ^ 32 → AreSubidentifiers rest → AreSubidentifiers (subidentifier_bytes n ++ rest)
more_from n rest small a =
    let e = numbers_again n rest small in
    record {
      spelt = ap (λ (s : List ℕ). subidentifier_bytes n ++ s) a.spelt ∙ ap (λ (ns : List ℕ). flat_map subidentifier_bytes ns) (sym e);
      small = subst (All (λ n. n < 2 ^ 32)) (sym e) (All-cons (λ n. n < 2 ^ 32) n (subidentifiers rest) small a.small);
    }

pub are_more : (n : ℕ) (s rest : List ℕ) → n < 2 ^ 32 → s ≡ subidentifier_bytes n ++ rest → AreSubidentifiers s ↔ AreSubidentifiers rest
are_more n s rest small e = rw e (more_of n rest small, more_from n rest small)

pub are_empty : (s : List ℕ) → length s ≡ 0 → AreSubidentifiers s
unfolding numbers_from
are_empty [] e = record { spelt = refl; small = All-nil (λ n. n < 2 ^ 32) }
are_empty (x ∷ s) e = absurd (omega arith)

-- Bytes that begin with no subidentifier are not made of them.
none_of : (s ns : List ℕ) → 0 < length s → ((n : ℕ) (rest : List ℕ) → n < 2 ^ 32 → s ≡ subidentifier_bytes n ++ rest → ⊥)
    → s ≡ flat_map subidentifier_bytes ns → All (λ n. n < 2 ^ 32) ns → ⊥
none_of s [] some none e all = let z : length s ≡ 0 = ap length e in omega arith
none_of s (n ∷ ns) some none e all = none n (flat_map subidentifier_bytes ns) (All-head (λ n. n < 2 ^ 32) n ns all) e

pub are_none : (s : List ℕ) → 0 < length s → ((n : ℕ) (rest : List ℕ) → n < 2 ^ 32 → s ≡ subidentifier_bytes n ++ rest → ⊥) → AreSubidentifiers s → ⊥
are_none s some none a = none_of s (subidentifiers s) some none a.spelt a.small

-- A subidentifier takes bytes away.
pub shorter : (n : ℕ) (s rest : List ℕ) → s ≡ subidentifier_bytes n ++ rest → length rest < length s
shorter n s rest e = rw e (omega (arith, some_bytes n, length-append (subidentifier_bytes n) rest))

-- What an iterator of arcs has left, before and after a subidentifier.
pub numbers_of : (n : ℕ) (s rest : List ℕ) → n < 2 ^ 32 → s ≡ subidentifier_bytes n ++ rest → subidentifiers s ≡ n ∷ subidentifiers rest
numbers_of n s rest small e = ap (λ (x : List ℕ). subidentifiers x) e ∙ numbers_again n rest small

pub numbers_end : (s : List ℕ) → AreSubidentifiers s → ((n : ℕ) (rest : List ℕ) → n < 2 ^ 32 → s ≡ subidentifier_bytes n ++ rest → ⊥) → subidentifiers s ≡ []
unfolding numbers_from
numbers_end [] a none = refl
numbers_end (x ∷ s) a none = absurd (are_none (x ∷ s) (omega arith) none a)

pub steps_end : (f g : Option ℕ) (s : List ℕ) → f ≡ None → g ≡ None → AreSubidentifiers s
    → ((n : ℕ) (rest : List ℕ) → n < 2 ^ 32 → s ≡ subidentifier_bytes n ++ rest → ⊥) → option_to_list f ++ (option_to_list g ++ subidentifiers s) ≡ []
steps_end f g s is_f is_g a none = rw (is_f, is_g) (numbers_end s a none)

pub steps_more : (f g : Option ℕ) (n : ℕ) (s rest : List ℕ) → f ≡ None → g ≡ None → n < 2 ^ 32 → s ≡ subidentifier_bytes n ++ rest
    → option_to_list f ++ (option_to_list g ++ subidentifiers s) ≡ n ∷ (option_to_list f ++ (option_to_list g ++ subidentifiers rest))
steps_more f g n s rest is_f is_g small e = rw (is_f, is_g) (numbers_of n s rest small e)

-- The text of arcs: the first, and each other one behind a dot.
pub dotted : (n : ℕ) (ns : List ℕ) → decimal n ++ flat_map (λ (n : ℕ). 46 ∷ decimal n) ns ≡ join_with_byte 46 (map decimal (n ∷ ns))
dotted n [] = append-nil (decimal n)
dotted n (m ∷ ns) = ap (λ (s : List ℕ). decimal n ++ (46 ∷ s)) (dotted m ns)

pub map_same : (ns : List ℕ) → map (λ (n : ℕ). n) ns ≡ ns
map_same [] = refl
map_same (n ∷ ns) = ap (λ (xs : List ℕ). n ∷ xs) (map_same ns)

pub arcs_text : (n : ℕ) (given left arcs : List ℕ) → map (λ (n : ℕ). n) given ≡ left → arcs ≡ n ∷ left
    → decimal n ++ flat_map (λ (n : ℕ). 46 ∷ decimal n) given ≡ join_with_byte 46 (map decimal arcs)
arcs_text n given left arcs all e =
    dotted n given ∙ ap (λ (ns : List ℕ). join_with_byte 46 (map decimal ns)) (ap (λ (ns : List ℕ). n ∷ ns) (sym (map_same given) ∙ all) ∙ sym e)
