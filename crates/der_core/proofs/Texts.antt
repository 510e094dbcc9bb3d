-- The text of an object identifier, and which contents have it.
use Rattle.std.proofs.Common.{◌≡◌, ℕ, ◌+◌, ◌^◌, ◌<◌, ◌≤◌, List, [], ◌∷◌, ◌++◌, length, map, Option, None, Some, IfNone, refl, ap, sym, subst, ◌∙◌, arith}
use Rattle.std.proofs.Common.{append_assoc, append-nil, length-append}
use Rattle.std.proofs.lemmas.Grind.{flat_map-append}
use Rattle.std.proofs.lemmas.List.Elements.{All-cons, All-nil}
use Rattle.std.specs.List.{All, flat_map, join_with_byte}
use Rattle.std.specs.Fmt.{decimal}
use Rattle.der_core.specs.Oid.{subidentifier_bytes, numbers_from, subidentifiers, AreSubidentifiers, IsOidContent, EndsDigits, first_arc, second_arc}
use Rattle.der_core.specs.Oid.{with_two_arcs, oid_text}
use Rattle.der_core.proofs.Subidentifiers.{numbers_again}
use Rattle.der_core.proofs.Identifiers.{All-head, All-tail, dotted}
use Rattle.der_core.proofs.Decimals.{number_unique}

-- The numbers behind the first, each behind a dot.
abbrev pub tail_text : List ℕ → List ℕ
tail_text ns = flat_map (λ (n : ℕ). 46 ∷ decimal n) ns

pub ends_tail : (ns : List ℕ) → EndsDigits (tail_text ns)
ends_tail [] = record { no_digit = λ h _. omega arith }
ends_tail (n ∷ ns) = record { no_digit = λ h _. omega arith }

-- A content's numbers: there is a first one.
pub record Numbers (content : List ℕ) : Type 0 where
  pub first : ℕ
  pub others : List ℕ
  pub are : subidentifiers content ≡ first ∷ others
  pub small : first < 2 ^ 32

numbers_in : (content ns : List ℕ) → content ≡ flat_map subidentifier_bytes ns → All (λ n. n < 2 ^ 32) ns → subidentifiers content ≡ ns → 1 ≤ length content
    → Numbers content
numbers_in content [] spelt small are some = let z : length content ≡ 0 = ap length spelt in absurd (omega arith)
numbers_in content (n ∷ ns) spelt small are some = record { first = n; others = ns; are = are; small = All-head (λ n. n < 2 ^ 32) n ns small }

pub numbers_of_content : (content : List ℕ) → AreSubidentifiers content → 1 ≤ length content → Numbers content
numbers_of_content content a some = numbers_in content (subidentifiers content) a.spelt a.small refl some

-- The text begins with the first two arcs.
pub text_of : (content : List ℕ) (n : ℕ) (ns : List ℕ) → subidentifiers content ≡ n ∷ ns
    → oid_text content ≡ decimal (first_arc n) ++ (46 ∷ (decimal (second_arc n) ++ tail_text ns))
text_of content n ns are =
    ap (λ (xs : List ℕ). join_with_byte 46 (map decimal (with_two_arcs xs))) are ∙ sym (dotted (first_arc n) (second_arc n ∷ ns))

-- The numbers of one spelling behind another.
numbers_behind : (ns rest : List ℕ) → All (λ n. n < 2 ^ 32) ns → subidentifiers (flat_map subidentifier_bytes ns ++ rest) ≡ ns ++ subidentifiers rest
numbers_behind [] rest small = refl
numbers_behind (n ∷ ns) rest small =
    ap (λ (s : List ℕ). subidentifiers s) (append_assoc (subidentifier_bytes n) (flat_map subidentifier_bytes ns) rest)
    ∙ numbers_again n (flat_map subidentifier_bytes ns ++ rest) (All-head (λ n. n < 2 ^ 32) n ns small)
    ∙ ap (λ (xs : List ℕ). n ∷ xs) (numbers_behind ns rest (All-tail (λ n. n < 2 ^ 32) n ns small))

numbers_one : (n : ℕ) → n < 2 ^ 32 → subidentifiers (subidentifier_bytes n) ≡ n ∷ []
unfolding numbers_from
numbers_one n small = ap (λ (s : List ℕ). subidentifiers s) (sym (append-nil (subidentifier_bytes n))) ∙ numbers_again n [] small

pub numbers_push : (content : List ℕ) (n : ℕ) → AreSubidentifiers content → n < 2 ^ 32
    → subidentifiers (content ++ subidentifier_bytes n) ≡ subidentifiers content ++ n ∷ []
numbers_push content n a small =
    ap (λ (s : List ℕ). subidentifiers (s ++ subidentifier_bytes n)) a.spelt
    ∙ numbers_behind (subidentifiers content) (subidentifier_bytes n) a.small
    ∙ ap (λ (xs : List ℕ). subidentifiers content ++ xs) (numbers_one n small)

All-push : (ns : List ℕ) (n : ℕ) → All (λ n. n < 2 ^ 32) ns → n < 2 ^ 32 → All (λ n. n < 2 ^ 32) (ns ++ n ∷ [])
All-push [] n all small = All-cons (λ n. n < 2 ^ 32) n [] small (All-nil (λ n. n < 2 ^ 32))
All-push (m ∷ ns) n all small = All-cons (λ n. n < 2 ^ 32) m (ns ++ n ∷ []) (All-head (λ n. n < 2 ^ 32) m ns all)
    (All-push ns n (All-tail (λ n. n < 2 ^ 32) m ns all) small)

pub are_push : (content : List ℕ) (n : ℕ) → AreSubidentifiers content → n < 2 ^ 32 → AreSubidentifiers (content ++ subidentifier_bytes n)
are_push content n a small =
    let e = numbers_push content n a small in
    let tail : flat_map subidentifier_bytes (n ∷ []) ≡ subidentifier_bytes n = append-nil (subidentifier_bytes n) in
    let whole : flat_map subidentifier_bytes (subidentifiers content ++ n ∷ []) ≡ content ++ subidentifier_bytes n =
    flat_map-append subidentifier_bytes (subidentifiers content) (n ∷ [])
    ∙ ap (λ (s : List ℕ). flat_map subidentifier_bytes (subidentifiers content) ++ s) tail
    ∙ ap (λ (s : List ℕ). s ++ subidentifier_bytes n) (sym a.spelt) in
    record {
      spelt = sym whole ∙ ap (λ (ns : List ℕ). flat_map subidentifier_bytes ns) (sym e);
      small = subst (All (λ n. n < 2 ^ 32)) (sym e) (All-push (subidentifiers content) n a.small small);
    }

pub are_one : (n : ℕ) → n < 2 ^ 32 → AreSubidentifiers (subidentifier_bytes n)
are_one n small =
    let e = numbers_one n small in
    record {
      spelt = sym (append-nil (subidentifier_bytes n)) ∙ ap (λ (ns : List ℕ). flat_map subidentifier_bytes ns) (sym e);
      small = subst (All (λ n. n < 2 ^ 32)) (sym e) (All-cons (λ n. n < 2 ^ 32) n [] small (All-nil (λ n. n < 2 ^ 32)));
    }

-- The text of one more number.
pub text_push : (content : List ℕ) (n : ℕ) → AreSubidentifiers content → 1 ≤ length content → n < 2 ^ 32
    → oid_text (content ++ subidentifier_bytes n) ≡ oid_text content ++ (46 ∷ decimal n)
text_push content n a some small =
    let ms = numbers_of_content content a some in
    let tail : tail_text (ms.others ++ n ∷ []) ≡ tail_text ms.others ++ (46 ∷ decimal n) =
    flat_map-append (λ (n : ℕ). 46 ∷ decimal n) ms.others (n ∷ []) ∙ ap (λ (s : List ℕ). tail_text ms.others ++ (46 ∷ s)) (append-nil (decimal n)) in
    let first : List ℕ = decimal (first_arc ms.first) in
    let second : List ℕ = decimal (second_arc ms.first) in
    text_of (content ++ subidentifier_bytes n) ms.first (ms.others ++ n ∷ []) (numbers_push content n a small ∙ ap (λ (xs : List ℕ). xs ++ n ∷ []) ms.are)
    ∙ ap (λ (s : List ℕ). first ++ (46 ∷ (second ++ s))) tail
    ∙ ap (λ (s : List ℕ). first ++ (46 ∷ s)) (sym (append_assoc second (tail_text ms.others) (46 ∷ decimal n)))
    ∙ sym (append_assoc first (46 ∷ (second ++ tail_text ms.others)) (46 ∷ decimal n))
    ∙ ap (λ (s : List ℕ). s ++ (46 ∷ decimal n)) (sym (text_of content ms.first ms.others ms.are))

pub text_one : (n : ℕ) → n < 2 ^ 32 → oid_text (subidentifier_bytes n) ≡ decimal (first_arc n) ++ (46 ∷ decimal (second_arc n))
text_one n small = text_of (subidentifier_bytes n) n [] (numbers_one n small)
    ∙ ap (λ (s : List ℕ). decimal (first_arc n) ++ (46 ∷ s)) (append-nil (decimal (second_arc n)))

-- A content whose text the whole is goes on, behind what was read, with what is left.
pub record Continues (c content rest : List ℕ) : Type 0 where
  pub more : List ℕ
  pub numbers : subidentifiers c ≡ subidentifiers content ++ more
  pub left : rest ≡ tail_text more

arcs_unique : (n m : ℕ) → first_arc n ≡ first_arc m → second_arc n ≡ second_arc m → n ≡ m
arcs_unique n m e e' = omega arith

second_small : (n : ℕ) → n < 2 ^ 32 → second_arc n < 2 ^ 32
second_small n h = omega arith

first_small : (n : ℕ) → first_arc n < 2 ^ 32
first_small n = omega arith

-- What follows the first number of a text.
pub record AfterFirst (c : List ℕ) (first : ℕ) (rest : List ℕ) : Type 0 where
  pub numbers : Numbers c
  pub first_is : first ≡ first_arc numbers.first
  pub rest_is : rest ≡ 46 ∷ (decimal (second_arc numbers.first) ++ tail_text numbers.others)

pub after_first : (c text : List ℕ) (first : ℕ) (rest : List ℕ) → IsOidContent c → oid_text c ≡ text → text ≡ decimal first ++ rest → first < 2 ^ 32
    → EndsDigits rest → AfterFirst c first rest
after_first c text first rest ok same is small ends =
    let ms = numbers_of_content c ok.numbers ok.some in
    let dot : EndsDigits (46 ∷ (decimal (second_arc ms.first) ++ tail_text ms.others)) = record { no_digit = λ h _. omega arith } in
    let both = number_unique first (first_arc ms.first) rest _ small (first_small ms.first) ends dot
    (sym is ∙ sym same ∙ text_of c ms.first ms.others ms.are) in
    record { numbers = ms; first_is = both.0; rest_is = both.1 }

tail_of : (s t : List ℕ) → 46 ∷ s ≡ 46 ∷ t → s ≡ t
tail_of s t e = cc

-- No content has a text that doesn't begin so.
pub no_first : (text : List ℕ) → ((n : ℕ) (rest : List ℕ) → n < 2 ^ 32 → EndsDigits rest → text ≡ decimal n ++ rest → ⊥) → (c : List ℕ) → IsOidContent c
    → oid_text c ≡ text → ⊥
no_first text none c ok same =
    let ms = numbers_of_content c ok.numbers ok.some in
    none (first_arc ms.first) (46 ∷ (decimal (second_arc ms.first) ++ tail_text ms.others)) (first_small ms.first)
    (record { no_digit = λ h _. omega arith }) (sym same ∙ text_of c ms.first ms.others ms.are)

pub no_second : (text rest : List ℕ) (first : ℕ) → text ≡ decimal first ++ rest → first < 2 ^ 32 → EndsDigits rest
    → ((n : ℕ) (after : List ℕ) → n < 2 ^ 32 → EndsDigits after → rest ≡ 46 ∷ (decimal n ++ after) → ⊥) → (c : List ℕ) → IsOidContent c → oid_text c ≡ text → ⊥
no_second text rest first is small ends none c ok same =
    let a = after_first c text first rest ok same is small ends in
    none (second_arc a.numbers.first) (tail_text a.numbers.others) (second_small a.numbers.first a.numbers.small) (ends_tail a.numbers.others) a.rest_is

pub record AfterSecond (c : List ℕ) (first second : ℕ) (after : List ℕ) : Type 0 where
  pub numbers : Numbers c
  pub first_is : first ≡ first_arc numbers.first
  pub second_is : second ≡ second_arc numbers.first
  pub after_is : after ≡ tail_text numbers.others

pub after_second : (c text rest after : List ℕ) (first second : ℕ) → IsOidContent c → oid_text c ≡ text → text ≡ decimal first ++ rest → first < 2 ^ 32
    → EndsDigits rest → rest ≡ 46 ∷ (decimal second ++ after) → second < 2 ^ 32 → EndsDigits after → AfterSecond c first second after
after_second c text rest after first second ok same is small ends is' small' ends' =
    let a = after_first c text first rest ok same is small ends in
    let both = number_unique second (second_arc a.numbers.first) after (tail_text a.numbers.others) small' (second_small a.numbers.first a.numbers.small)
    ends' (ends_tail a.numbers.others) (tail_of _ _ (sym is' ∙ a.rest_is)) in
    record { numbers = a.numbers; first_is = a.first_is; second_is = both.0; after_is = both.1 }

pub no_joined : (text rest after : List ℕ) (first second : ℕ) → text ≡ decimal first ++ rest → first < 2 ^ 32 → EndsDigits rest
    → rest ≡ 46 ∷ (decimal second ++ after) → second < 2 ^ 32 → EndsDigits after → ((n : ℕ) → n < 2 ^ 32 → first ≡ first_arc n → second ≡ second_arc n → ⊥)
    → (c : List ℕ) → IsOidContent c → oid_text c ≡ text → ⊥
no_joined text rest after first second is small ends is' small' ends' none c ok same =
    let a = after_second c text rest after first second ok same is small ends is' small' ends' in
    none a.numbers.first a.numbers.small a.first_is a.second_is

pub continues_first : (text rest after : List ℕ) (first second n : ℕ) → text ≡ decimal first ++ rest → first < 2 ^ 32 → EndsDigits rest
    → rest ≡ 46 ∷ (decimal second ++ after) → second < 2 ^ 32 → EndsDigits after → first ≡ first_arc n → second ≡ second_arc n → n < 2 ^ 32 → (c : List ℕ)
    → IsOidContent c → oid_text c ≡ text → Continues c (subidentifier_bytes n) after
continues_first text rest after first second n is small ends is' small' ends' is_first is_second small_n c ok same =
    let a = after_second c text rest after first second ok same is small ends is' small' ends' in
    let e : a.numbers.first ≡ n = arcs_unique a.numbers.first n (sym a.first_is ∙ is_first) (sym a.second_is ∙ is_second) in
    record {
      more = a.numbers.others;
      numbers = a.numbers.are ∙ ap (λ (k : ℕ). k ∷ a.numbers.others) e ∙ ap (λ (xs : List ℕ). xs ++ a.numbers.others) (sym (numbers_one n small_n));
      left = a.after_is;
    }

-- What was read is no longer than such a content.
pub continues_length : (c content rest : List ℕ) → IsOidContent c → AreSubidentifiers content → Continues c content rest → length content ≤ length c
continues_length c content rest ok a k =
    let whole : c ≡ content ++ flat_map subidentifier_bytes k.more =
    ok.numbers.spelt ∙ ap (λ (ns : List ℕ). flat_map subidentifier_bytes ns) k.numbers ∙ flat_map-append subidentifier_bytes (subidentifiers content) k.more
    ∙ ap (λ (s : List ℕ). s ++ flat_map subidentifier_bytes k.more) (sym a.spelt) in
    let n = ap length whole in
    omega (arith, length-append content (flat_map subidentifier_bytes k.more))

All-middle : (xs : List ℕ) (n : ℕ) (ns : List ℕ) → All (λ n. n < 2 ^ 32) (xs ++ n ∷ ns) → n < 2 ^ 32
All-middle [] n ns all = All-head (λ n. n < 2 ^ 32) n ns all
All-middle (x ∷ xs) n ns all = All-middle xs n ns (All-tail (λ n. n < 2 ^ 32) x (xs ++ n ∷ ns) all)

-- The next number is the next of each such content.
next_of : (c content rest after more : List ℕ) (n : ℕ) → IsOidContent c → AreSubidentifiers content → subidentifiers c ≡ subidentifiers content ++ more
    → rest ≡ tail_text more → rest ≡ 46 ∷ (decimal n ++ after) → n < 2 ^ 32 → EndsDigits after → Continues c (content ++ subidentifier_bytes n) after
next_of c content rest after [] n ok a numbers left is small ends = let z : [] ≡ 46 ∷ (decimal n ++ after) = sym left ∙ is in cc
next_of c content rest after (m ∷ ms) n ok a numbers left is small ends =
    let fits : m < 2 ^ 32 = All-middle (subidentifiers content) m ms (subst (All (λ n. n < 2 ^ 32)) numbers ok.numbers.small) in
    let both = number_unique n m after (tail_text ms) small fits ends (ends_tail ms) (tail_of _ _ (sym is ∙ left)) in
    record {
      more = ms;
      numbers = numbers ∙ ap (λ (k : ℕ). subidentifiers content ++ k ∷ ms) (sym both.0) ∙ sym (append_assoc (subidentifiers content) (n ∷ []) ms)
          ∙ ap (λ (xs : List ℕ). xs ++ ms) (sym (numbers_push content n a small));
      left = both.1;
    }

pub continues_next : (c content rest after : List ℕ) (n : ℕ) → IsOidContent c → AreSubidentifiers content → Continues c content rest
    → rest ≡ 46 ∷ (decimal n ++ after) → n < 2 ^ 32 → EndsDigits after → Continues c (content ++ subidentifier_bytes n) after
continues_next c content rest after n ok a k is small ends = next_of c content rest after k.more n ok a k.numbers k.left is small ends

none_left : (c content rest more : List ℕ) → IsOidContent c → subidentifiers c ≡ subidentifiers content ++ more → rest ≡ tail_text more → 0 < length rest
    → ((n : ℕ) (after : List ℕ) → n < 2 ^ 32 → EndsDigits after → rest ≡ 46 ∷ (decimal n ++ after) → ⊥) → ⊥
none_left c content rest [] ok numbers left some none = let z : length rest ≡ 0 = ap length left in omega arith
none_left c content rest (m ∷ ms) ok numbers left some none =
    none m (tail_text ms) (All-middle (subidentifiers content) m ms (subst (All (λ n. n < 2 ^ 32)) numbers ok.numbers.small)) (ends_tail ms) left

pub no_next : (c content rest : List ℕ) → IsOidContent c → Continues c content rest → 0 < length rest
    → ((n : ℕ) (after : List ℕ) → n < 2 ^ 32 → EndsDigits after → rest ≡ 46 ∷ (decimal n ++ after) → ⊥) → ⊥
no_next c content rest ok k some none = none_left c content rest k.more ok k.numbers k.left some none

-- One more number than a content has room for.
pub no_room : (c content rest after : List ℕ) (n : ℕ) → IsOidContent c → AreSubidentifiers content → Continues c content rest
    → rest ≡ 46 ∷ (decimal n ++ after) → n < 2 ^ 32 → EndsDigits after → 39 < length content + length (subidentifier_bytes n) → ⊥
no_room c content rest after n ok a k is small ends full =
    let next = continues_next c content rest after n ok a k is small ends in
    let long : length (content ++ subidentifier_bytes n) ≤ length c =
    continues_length c (content ++ subidentifier_bytes n) after ok (are_push content n a small) next in
    let short : length c ≤ 39 = ok.short in
    omega (arith, length-append content (subidentifier_bytes n))

pub if_none : {T P : Type 0} (o : Option T) → P → IfNone o P
if_none None p = p
if_none (Some x) p = tt

-- Numbers behind dots are told by their text.
tails_same : (ns ms : List ℕ) → All (λ n. n < 2 ^ 32) ns → All (λ n. n < 2 ^ 32) ms → tail_text ns ≡ tail_text ms → ns ≡ ms
tails_same [] [] small small' e = refl
tails_same [] (m ∷ ms) small small' e = cc
tails_same (n ∷ ns) [] small small' e = cc
tails_same (n ∷ ns) (m ∷ ms) small small' e =
    let P : ℕ → Type 0 = λ k. k < 2 ^ 32 in
    let both = number_unique n m (tail_text ns) (tail_text ms) (All-head P n ns small) (All-head P m ms small') (ends_tail ns) (ends_tail ms) (tail_of _ _ e) in
    let with_first : ℕ → List ℕ = λ k. k ∷ ns in
    ap with_first both.0 ∙ ap (λ (ks : List ℕ). m ∷ ks) (tails_same ns ms (All-tail P n ns small) (All-tail P m ms small') both.1)

-- A subidentifier is told by its two arcs.
first_same : (n m : ℕ) → first_arc n ≡ first_arc m → second_arc n ≡ second_arc m → n ≡ m
first_same n m e f = omega arith

-- A content is told by its text.
pub same_content : (a b : List ℕ) → IsOidContent a → IsOidContent b → oid_text a ≡ oid_text b → a ≡ b
same_content a b ok ok' e =
    let P : ℕ → Type 0 = λ k. k < 2 ^ 32 in
    let na = numbers_of_content a ok.numbers ok.some in
    let second = after_second b (oid_text a) (46 ∷ (decimal (second_arc na.first) ++ tail_text na.others)) (tail_text na.others) (first_arc na.first)
    (second_arc na.first) ok' (sym e) (text_of a na.first na.others na.are) (first_small na.first) (record { no_digit = λ h _. omega arith }) refl
    (second_small na.first na.small) (ends_tail na.others) in
    let nb = second.numbers in
    let firsts : na.first ≡ nb.first = first_same na.first nb.first second.first_is second.second_is in
    let small_a = All-tail P na.first na.others (subst (All P) na.are ok.numbers.small) in
    let small_b = All-tail P nb.first nb.others (subst (All P) nb.are ok'.numbers.small) in
    let others : na.others ≡ nb.others = tails_same na.others nb.others small_a small_b second.after_is in
    let with_first : ℕ → List ℕ = λ k. k ∷ na.others in
    let numbers : subidentifiers a ≡ subidentifiers b = na.are ∙ ap with_first firsts ∙ ap (λ (ks : List ℕ). nb.first ∷ ks) others ∙ sym nb.are in
    ok.numbers.spelt ∙ ap (λ (ks : List ℕ). flat_map subidentifier_bytes ks) numbers ∙ sym ok'.numbers.spelt
