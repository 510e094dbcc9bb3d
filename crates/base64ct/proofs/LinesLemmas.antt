-- Lines, the pieces of a text and the walk over it.
use Rattle.std.proofs.Common.{◌≡◌, ℕ, zero, suc, ◌-◌, ◌<◌, ◌≤◌, Bool, true, false, ◌&&◌, ◌==◌, List, [], ◌∷◌, ◌++◌, length, take, drop, arith, rules, refl, ap}
use Rattle.std.proofs.Common.{sym, ◌∙◌, append_assoc, append-nil, length-append, length-drop, inl, inr, nat_lt, subst}
use Rattle.std.proofs.lemmas.Bool.{cases_Bool, eqb-true, both_ways, ltb-true, ltb-false, and_parts, or_parts}
use Rattle.std.proofs.lemmas.List.{take-append-drop, length-take-le}
use Rattle.std.proofs.lemmas.List.Elements.{All-cons, All-head, All-tail}
use Rattle.base64ct.specs.Lines.{Lines, Last, More, IsEnding, Cr, Lf, Crlf, IsLine, is_line_break, joined, joined_within, has_endings, has_endings_within}
use Rattle.base64ct.specs.Lines.{ends_in_ending, starts_with_ending, after_ending, after_lf}
use Rattle.base64ct.specs.Walk.{joined_from, has_endings_from}

pub pred_suc : (n : ℕ) → suc n - 1 ≡ n
pred_suc n = omega arith

pub suc_ne : (n : ℕ) → (suc n == 0) ≡ false
suc_ne n = search rules

-- a last line stays
pub walk_last : (w n : ℕ) (line : List ℕ) → length line ≤ n → joined_from w n false line ≡ line
walk_last w n [] le = refl
walk_last w zero (c ∷ line) le = absurd (omega arith)
walk_last w (suc n) (c ∷ line) le = rw (suc_ne n, pred_suc n) (ap (λ xs. c ∷ xs) (walk_last w n line (omega arith)))

-- a full line is passed
walk_full : (w n : ℕ) (line text : List ℕ) → length line ≡ n → joined_from w n false (line ++ text) ≡ line ++ joined_from w 0 false text
walk_full w zero [] text e = refl
walk_full w (suc n) [] text e = absurd (omega arith)
walk_full w zero (c ∷ line) text e = absurd (omega arith)
walk_full w (suc n) (c ∷ line) text e = rw (suc_ne n, pred_suc n) (ap (λ xs. c ∷ xs) (walk_full w n line text (omega arith)))

pub ends_last : (w n : ℕ) (line : List ℕ) → length line ≤ n → has_endings_from w n false line ≡ true
ends_last w n [] le = refl
ends_last w zero (c ∷ line) le = absurd (omega arith)
ends_last w (suc n) (c ∷ line) le = rw (suc_ne n, pred_suc n) (ends_last w n line (omega arith))

ends_full : (w n : ℕ) (line text : List ℕ) → length line ≡ n → has_endings_from w n false (line ++ text) ≡ has_endings_from w 0 false text
ends_full w zero [] text e = refl
ends_full w (suc n) [] text e = absurd (omega arith)
ends_full w zero (c ∷ line) text e = absurd (omega arith)
ends_full w (suc n) (c ∷ line) text e = rw (suc_ne n, pred_suc n) (ends_full w n line text (omega arith))

-- where no LF is first, a CR before it changes nothing
pub starts_with_lf : List ℕ → Bool
starts_with_lf [] = false
starts_with_lf (c ∷ text) = c == 10

after_cr : (w n : ℕ) (text : List ℕ) → starts_with_lf text ≡ false → joined_from w n true text ≡ joined_from w n false text
unfolding starts_with_lf
after_cr w n [] h = refl
after_cr w n (c ∷ text) h = rw h refl

ends_after_cr : (w n : ℕ) (text : List ℕ) → starts_with_lf text ≡ false → has_endings_from w n true text ≡ has_endings_from w n false text
unfolding starts_with_lf
ends_after_cr w n [] h = refl
ends_after_cr w n (c ∷ text) h = rw h refl

line_start : (line text : List ℕ) → IsLine line → 0 < length line → starts_with_lf (line ++ text) ≡ false
unfolding starts_with_lf
line_start [] text is some = absurd (omega arith)
line_start (c ∷ line) text is some = (or_parts (c == 13) (c == 10) (is 0 0 (omega arith))).1

line_rest : (c : ℕ) (line : List ℕ) → IsLine (c ∷ line) → IsLine line
line_rest c line is = λ k d lt. is (suc k) d (omega arith)

line_last : (line : List ℕ) → IsLine line → ends_in_ending line ≡ false
line_last [] is = refl
line_last (c ∷ []) is = is 0 0 (omega arith)
line_last (c ∷ d ∷ line) is = line_last (d ∷ line) (line_rest c (d ∷ line) is)

ends-append : (xs text : List ℕ) → 0 < length text → ends_in_ending (xs ++ text) ≡ ends_in_ending text
ends-append [] text some = refl
ends-append (c ∷ []) [] some = absurd (omega arith)
ends-append (c ∷ []) (d ∷ text) some = refl
ends-append (c ∷ e ∷ xs) text some = ends-append (e ∷ xs) text some

-- what the walk gives on lines
record Walked (w : ℕ) (text t : List ℕ) : Type 0 where
  is_joined : joined_from w w false text ≡ t
  ends : has_endings_from w w false text ≡ true
  start : starts_with_lf text ≡ false
  last : ends_in_ending text ≡ false
  some : 0 < length text

-- the walk over an ending
over : (w : ℕ) (ending text : List ℕ) → IsEnding ending → starts_with_lf text ≡ false
    → (joined_from w 0 false (ending ++ text) ≡ joined_from w w false text) × (has_endings_from w 0 false (ending ++ text) ≡ has_endings_from w w false text)
over w ending text Cr start = (after_cr w w text start, ends_after_cr w w text start)
over w ending text Lf start = (refl, refl)
over w ending text Crlf start = (refl, refl)

some_ending : (ending : List ℕ) → IsEnding ending → 0 < length ending
some_ending ending Cr = omega arith
some_ending ending Lf = omega arith
some_ending ending Crlf = omega arith

walked : (w : ℕ) (text t : List ℕ) → 0 < w → Lines w text t → Walked w text t
walked w text t low (Last line is some few) = record {
  is_joined = walk_last w w line few;
  ends = ends_last w w line few;
  start = rw (← append-nil line) (line_start line [] is some);
  last = line_last line is;
  some = some;
}
walked w text t low (More line ending rest u is full end lines) =
    let r = walked w rest u low lines in
    let o = over w ending rest end r.start in
    record {
      is_joined = rw (append_assoc line ending rest) (walk_full w w line (ending ++ rest) full ∙ ap (λ xs. line ++ xs) (o.0 ∙ r.is_joined));
      ends = rw (append_assoc line ending rest) (ends_full w w line (ending ++ rest) full ∙ o.1 ∙ r.ends);
      start = rw (append_assoc line ending rest) (line_start line (ending ++ rest) is (omega arith));
      last = ends-append (line ++ ending) rest r.some ∙ r.last;
      some = (let e = length-append (line ++ ending) rest in let s = r.some in omega arith);
    }

-- a text that isn't empty gives a character
pub joined_some : (w : ℕ) (text : List ℕ) → 0 < w → 0 < length text → 0 < length (joined_from w w false text)
joined_some zero text low some = absurd (omega arith)
joined_some (suc w) [] low some = absurd (omega arith)
joined_some (suc w) (c ∷ text) low some = rw (suc_ne w) (omega arith)

-- ---- the pieces and the walk

-- the walk over what stands after a full line
pub joined_after : (w : ℕ) (text : List ℕ) → starts_with_ending text ≡ true → joined_from w 0 false text ≡ joined_from w w false (after_ending text)
joined_after w [] h = absurd (cc)
joined_after w (c ∷ []) h = elim (cases_Bool (c == 13)) [
  | inl e ↦ rw e refl
  | inr e ↦ rw (e, rw e at h) refl
]
joined_after w (c ∷ d ∷ text) h = elim (cases_Bool (c == 13)) [
  | inl e ↦ elim (cases_Bool (d == 10)) [ inl f ↦ rw (e, f) refl | inr f ↦ rw (e, f) refl ]
  | inr e ↦ rw (e, rw e at h) refl
]

pub ends_after : (w : ℕ) (text : List ℕ) → 0 < length text → has_endings_from w 0 false text
    ≡ (starts_with_ending text && has_endings_from w w false (after_ending text))
ends_after w [] some = absurd (omega arith)
ends_after w (c ∷ []) some = elim (cases_Bool (c == 13)) [
  | inl e ↦ rw e refl
  | inr e ↦ elim (cases_Bool (c == 10)) [ inl f ↦ rw (e, f) refl | inr f ↦ rw (e, f) refl ]
]
ends_after w (c ∷ d ∷ text) some = elim (cases_Bool (c == 13)) [
  | inl e ↦ elim (cases_Bool (d == 10)) [ inl f ↦ rw (e, f) refl | inr f ↦ rw (e, f, f) refl ]
  | inr e ↦ elim (cases_Bool (c == 10)) [ inl f ↦ rw (e, f) refl | inr f ↦ rw (e, f) refl ]
]

after_lf_short : (text : List ℕ) → length (after_lf text) ≤ length text
after_lf_short [] = omega arith
after_lf_short (c ∷ text) = elim (cases_Bool (c == 10)) [ inl e ↦ rw e (omega arith) | inr e ↦ rw e (omega arith) ]

pub after_short : (text : List ℕ) → length (after_ending text) ≤ length text
after_short [] = omega arith
after_short (c ∷ text) = elim (cases_Bool (c == 13)) [
  | inl e ↦ rw e (let l = after_lf_short text in omega arith)
  | inr e ↦ elim (cases_Bool (c == 10)) [ inl f ↦ rw (e, f) (omega arith) | inr f ↦ rw (e, f) (omega arith) ]
]

-- the pieces of a text are what the walk joins
record Same (n w : ℕ) (text : List ℕ) : Type 0 where
  ends : has_endings_within n w text ≡ has_endings_from w w false text
  join : has_endings_within n w text ≡ true → joined_within n w text ≡ joined_from w w false text

same_walk : (n w : ℕ) (text : List ℕ) → 0 < w → length text ≤ n → Same n w text
same_walk zero w [] low le = record { ends = refl; join = λ h. refl }
same_walk zero w (c ∷ text) low le = absurd (omega arith)
same_walk (suc n) w text low le = elim (cases_Bool (nat_lt w (length text))) [
  | inl e ↦ (let lt = ltb-true w (length text) e in
      let full : length (take w text) ≡ w = length-take-le w text (omega arith) in
      let rest : length (drop w text) ≡ length text - w = length-drop w text in
      let short = after_short (drop w text) in
      let r = same_walk n w (after_ending (drop w text)) low (omega arith) in
      let whole = sym (take-append-drop w text) in
      let walk : joined_from w w false text ≡ take w text ++ joined_from w 0 false (drop w text) = ap (joined_from w w false) whole
      ∙ walk_full w w (take w text) (drop w text) full in
      let walk_ends : has_endings_from w w false text ≡ has_endings_from w 0 false (drop w text) = ap (has_endings_from w w false) whole
      ∙ ends_full w w (take w text) (drop w text) full in
      let after = ends_after w (drop w text) (omega arith) in
      record {
        ends = rw (e, walk_ends, after, r.ends) refl;
        join = λ h. (let parts = and_parts (starts_with_ending (drop w text)) (has_endings_within n w (after_ending (drop w text))) (rw e at h) in
            rw (e, walk, joined_after w (drop w text) parts.0, r.join parts.1) refl);
      })
  | inr e ↦ (let few = ltb-false w (length text) e in
      record {
        ends = rw e (sym (ends_last w w text few));
        join = λ h. rw e (sym (walk_last w w text few));
      })
]

pub has_endings-walk : (w : ℕ) (text : List ℕ) → 0 < w → has_endings w text ≡ has_endings_from w w false text
has_endings-walk w text low = (same_walk (length text) w text low (omega arith)).ends

pub joined-walk : (w : ℕ) (text : List ℕ) → 0 < w → has_endings w text ≡ true → joined w text ≡ joined_from w w false text
joined-walk w text low h = (same_walk (length text) w text low (omega arith)).join h

-- what lines give
pub record AreLines (w : ℕ) (text t : List ℕ) : Type 0 where
  pub is_joined : joined w text ≡ t
  pub ends : has_endings w text ≡ true
  pub last : ends_in_ending text ≡ false
  pub some : 0 < length text

pub lines_are : (w : ℕ) (text t : List ℕ) → 0 < w → Lines w text t → AreLines w text t
lines_are w text t low lines =
    let k = walked w text t low lines in
    let ends : has_endings w text ≡ true = has_endings-walk w text low ∙ k.ends in
    record {
      is_joined = joined-walk w text low ends ∙ k.is_joined;
      ends = ends;
      last = k.last;
      some = k.some;
    }

-- a text has at most one join
pub Lines-unique : (w : ℕ) (text t u : List ℕ) → 0 < w → Lines w text t → Lines w text u → t ≡ u
Lines-unique w text t u low x y = sym ((lines_are w text t low x).is_joined) ∙ (lines_are w text u low y).is_joined

-- ---- back: pieces without CR and LF are lines

pub line_parts : (xs ys : List ℕ) → IsLine (xs ++ ys) → IsLine xs × IsLine ys
line_parts [] ys h = (λ k d lt. absurd (omega arith), h)
line_parts (x ∷ xs) ys h =
    let P : ℕ → Type 0 = λ c. is_line_break c ≡ false in
    let r = line_parts xs ys (All-tail P x (xs ++ ys) h) in
    (All-cons P x xs (All-head P x (xs ++ ys) h) r.0, r.1)

-- what starts with an ending is that ending and the rest
ending_split : (text : List ℕ) → starts_with_ending text ≡ true → (ending : List ℕ) × IsEnding ending × (text ≡ ending ++ after_ending text)
ending_split [] h = absurd (cc)
ending_split (c ∷ []) h = elim (cases_Bool (c == 13)) [
  | inl e ↦ (13 ∷ [], Cr, rw (eqb-true c 13 e) refl)
  | inr e ↦ (let f : (c == 10) ≡ true = rw e at h in (10 ∷ [], Lf, rw (eqb-true c 10 f) refl))
]
ending_split (c ∷ d ∷ text) h = elim (cases_Bool (c == 13)) [
  | inl e ↦ elim (cases_Bool (d == 10)) [
    | inl f ↦ (13 ∷ 10 ∷ [], Crlf, rw (eqb-true c 13 e, eqb-true d 10 f) refl)
    | inr f ↦ (13 ∷ [], Cr, rw (eqb-true c 13 e, f) refl)
  ]
  | inr e ↦ (let f : (c == 10) ≡ true = rw e at h in (10 ∷ [], Lf, rw (eqb-true c 10 f) refl))
]

ending_ends : (ending : List ℕ) → IsEnding ending → ends_in_ending ending ≡ true
ending_ends ending Cr = refl
ending_ends ending Lf = refl
ending_ends ending Crlf = refl

-- a text that ends in no ending has something behind an ending
some_behind : (line ending rest : List ℕ) → IsEnding ending → ends_in_ending (line ++ ending ++ rest) ≡ false → 0 < length rest
some_behind line ending [] is h = absurd (both_ways (ends_in_ending ending)
    (rw (append-nil (line ++ ending), ends-append line ending (some_ending ending is)) at h) (ending_ends ending is))
some_behind line ending (c ∷ rest) is h = omega arith

lines_within : (n w : ℕ) (text : List ℕ) → 0 < w → 0 < length text → length text ≤ n → has_endings_within n w text ≡ true → ends_in_ending text ≡ false
    → IsLine (joined_within n w text) → Lines w text (joined_within n w text)
lines_within zero w text low some le ends last is = absurd (omega arith)
lines_within (suc n) w text low some le ends last is = elim (cases_Bool (nat_lt w (length text))) [
  | inl e ↦ (let lt = ltb-true w (length text) e in
      let full : length (take w text) ≡ w = length-take-le w text (omega arith) in
      let rest : length (drop w text) ≡ length text - w = length-drop w text in
      let short = after_short (drop w text) in
      let parts = and_parts (starts_with_ending (drop w text)) (has_endings_within n w (after_ending (drop w text))) (rw e at ends) in
      let cut = ending_split (drop w text) parts.0 in
      let whole : text ≡ take w text ++ cut.0 ++ after_ending (drop w text)
      = sym (take-append-drop w text) ∙ ap (λ xs. take w text ++ xs) cut.2 ∙ sym (append_assoc (take w text) cut.0 (after_ending (drop w text))) in
      let more = some_behind (take w text) cut.0 (after_ending (drop w text)) cut.1 (ap ends_in_ending (sym whole) ∙ last) in
      let behind : ends_in_ending (after_ending (drop w text)) ≡ false
      = sym (ends-append (take w text ++ cut.0) (after_ending (drop w text)) more) ∙ ap ends_in_ending (sym whole) ∙ last in
      let lines = line_parts (take w text) (joined_within n w (after_ending (drop w text))) (rw e at is) in
      let r = lines_within n w (after_ending (drop w text)) low more (omega arith) parts.1 behind lines.1 in
      rw e (subst (λ (xs : List ℕ). Lines w xs (take w text ++ joined_within n w (after_ending (drop w text)))) (sym whole)
      (More (take w text) cut.0 (after_ending (drop w text)) (joined_within n w (after_ending (drop w text))) lines.0 full cut.1 r)))
  | inr e ↦ (let few = ltb-false w (length text) e in
      let line : IsLine text = rw e at is in
      rw e (Last text line some few))
]

-- a text whose pieces hold no CR and no LF, each with its ending behind it but the last, is lines
pub lines_back : (w : ℕ) (text : List ℕ) → 0 < w → 0 < length text → has_endings w text ≡ true → ends_in_ending text ≡ false
    → IsLine (joined w text) → Lines w text (joined w text)
lines_back w text low some ends last is = lines_within (length text) w text low some (omega arith) ends last is
