-- Reading of a text in lines, and cutting it into lines.
use Rattle.std.proofs.Common.{◌≡◌, ℕ, zero, suc, ◌+◌, ◌-◌, ◌<◌, ◌≤◌, true, false, ◌&&◌, List, [], ◌∷◌, ◌++◌, length, slice_index, take, drop, arith, refl, ap}
use Rattle.std.proofs.Common.{sym, ◌∙◌, append_assoc, length-append, length-drop, inl, inr}
use Rattle.std.proofs.lemmas.Bool.{cases_lt, both_ways, and_parts}
use Rattle.std.proofs.lemmas.List.{length-take-le, drop-drop, drop_at, drop_all, take_at, drop-append-le}
use borrow.Rule.Slice.PartMut.{put_mid, post_of}
use Rattle.base64ct.specs.Lines.{is_line_break, ends_in_ending, starts_with_ending, after_ending}
use Rattle.base64ct.specs.Walk.{joined_from, has_endings_from, IsCut}
use Rattle.base64ct.proofs.LinesLemmas.{pred_suc, suc_ne, joined_after, ends_after, ends_last, walk_last, after_short}

-- part of a line
pub record Part (w n k : ℕ) (text : List ℕ) : Type 0 where
  pub join : joined_from w n false text ≡ take k text ++ joined_from w (n - k) false (drop k text)
  pub ends : has_endings_from w n false text ≡ has_endings_from w (n - k) false (drop k text)

pub line_part : (w n k : ℕ) (text : List ℕ) → k ≤ n → k ≤ length text → Part w n k text
line_part w n zero text le fits = let e : n - 0 ≡ n = omega arith in record { join = rw e refl; ends = rw e refl }
line_part w zero (suc k) text le fits = absurd (omega arith)
line_part w (suc n) (suc k) [] le fits = absurd (omega arith)
line_part w (suc n) (suc k) (c ∷ text) le fits =
    let p = line_part w n k text (omega arith) (omega arith) in
    let e : suc n - suc k ≡ n - k = omega arith in
    record {
      join = rw (suc_ne n, pred_suc n, e) (ap (λ xs. c ∷ xs) p.join);
      ends = rw (suc_ne n, pred_suc n, e) p.ends;
    }

-- no text gives no characters
pub some_text_left : (w n : ℕ) (text : List ℕ) → 0 < length (joined_from w n false text) → 0 < length text
some_text_left w n [] h = h
some_text_left w n (c ∷ text) h = omega arith

some_start : (text : List ℕ) → starts_with_ending text ≡ true → 0 < length text
some_start [] h = absurd (cc)
some_start (c ∷ text) h = omega arith

-- behind the ending of a line
pub record Behind (w n : ℕ) (text : List ℕ) : Type 0 where
  pub join : joined_from w w false (after_ending text) ≡ joined_from w n false text
  pub ends : has_endings_from w w false (after_ending text) ≡ true

pub behind_ending : (w n : ℕ) (text : List ℕ) → n ≡ 0 → has_endings_from w n false text ≡ true → starts_with_ending text ≡ true → Behind w n text
behind_ending w zero text z ends h = record {
  join = sym (joined_after w text h);
  ends = (and_parts (starts_with_ending text) (has_endings_from w w false (after_ending text)) (sym (ends_after w text (some_start text h)) ∙ ends)).1;
}
behind_ending w (suc n) text z ends h = absurd (omega arith)

pub at_end : (w n : ℕ) (text : List ℕ) → n ≡ 0 → has_endings_from w n false text ≡ true → starts_with_ending text ≡ false
    → 0 < length (joined_from w n false text) → ⊥
at_end w zero text z ends h some =
    both_ways (starts_with_ending text)
    h (and_parts (starts_with_ending text) (has_endings_from w w false (after_ending text)) (sym (ends_after w text (some_text_left w 0 text some)) ∙ ends)).0
at_end w (suc n) text z ends h some = omega arith

-- the first character
pub first_one : (xs text ys : List ℕ) → xs ≡ take 1 text ++ ys → 0 < length text → xs ≡ slice_index text 0 ∷ ys
first_one xs [] ys h some = absurd (omega arith)
first_one xs (c ∷ text) ys h some = h

-- ---- lines cut off

pub cut_none : (w : ℕ) (text : List ℕ) → IsCut w 0 text [] text
cut_none w text = record { short = omega arith; ends = refl; within = omega arith; full = inl refl; tail = refl }

-- a full line before an ending
pub record FullLine (w : ℕ) (rest : List ℕ) : Type 0 where
  pub join : starts_with_ending (drop w rest) ≡ true → joined_from w w false rest ≡ take w rest ++ joined_from w w false (after_ending (drop w rest))
  pub ends : has_endings_from w w false rest ≡ (starts_with_ending (drop w rest) && has_endings_from w w false (after_ending (drop w rest)))

pub full_line : (w : ℕ) (rest : List ℕ) → w < length rest → FullLine w rest
full_line w rest lt =
    let p = line_part w w w rest (omega arith) (omega arith) in
    let z : w - w ≡ 0 = omega arith in
    let d = length-drop w rest in
    record {
      join = λ h. p.join ∙ rw z (ap (λ xs. take w rest ++ xs) (joined_after w (drop w rest) h));
      ends = p.ends ∙ rw z (ends_after w (drop w rest) (omega arith));
    }

pub cut_more : (w count : ℕ) (text line rest : List ℕ) → IsCut w count text line rest → w < length rest → starts_with_ending (drop w rest) ≡ true
    → IsCut w (count + w) text (take w rest) (after_ending (drop w rest))
cut_more w count text line rest c lt h =
    let f = full_line w rest lt in
    let len : length (take w rest) ≡ w = length-take-le w rest (omega arith) in
    let d = length-drop w rest in
    let a = after_short (drop w rest) in
    let s = c.short in
    let within = c.within in
    let back : count + w - length (take w rest) ≡ count = omega arith in
    let at : count - length line + length line ≡ count = omega arith in
    record {
      short = omega arith;
      ends = c.ends ∙ f.ends ∙ rw h refl;
      within = omega arith;
      full = inr len;
      tail = rw back (ap (λ n. drop n (joined_from w w false text)) (sym at)
          ∙ sym (drop-drop (length line) (count - length line) (joined_from w w false text)) ∙ ap (drop (length line)) c.tail
          ∙ drop_at line (joined_from w w false rest) (length line) refl ∙ f.join h);
    }

pub cut_bad : (w count : ℕ) (text line rest : List ℕ) → IsCut w count text line rest → w < length rest → starts_with_ending (drop w rest) ≡ false
    → has_endings_from w w false text ≡ false
cut_bad w count text line rest c lt h = c.ends ∙ (full_line w rest lt).ends ∙ rw h refl

-- all full lines were cut off
pub record AllCut (w count : ℕ) (text line rest : List ℕ) : Type 0 where
  pub ends : has_endings_from w w false text ≡ true
  pub len : length (joined_from w w false text) ≡ count + length rest
  pub last : (n : ℕ) → n ≤ 4 → n ≤ count + length rest → (n ≤ length line + length rest)
      × (drop (length line + length rest - n) (line ++ rest) ≡ drop (count + length rest - n) (joined_from w w false text))

pub all_cut : (w count : ℕ) (text line rest : List ℕ) → 4 ≤ w → IsCut w count text line rest → length rest ≤ w → AllCut w count text line rest
all_cut w count text line rest wide c few =
    let walk : joined_from w w false rest ≡ rest = walk_last w w rest few in
    let within = c.within in
    let tail : drop (count - length line) (joined_from w w false text) ≡ line ++ rest = rw walk at c.tail in
    let l1 : length (joined_from w w false text) - (count - length line) ≡ length line + length rest
    = sym (length-drop (count - length line) (joined_from w w false text)) ∙ ap length tail ∙ length-append line rest in
    let len : length (joined_from w w false text) ≡ count + length rest = elim c.full [
      | inl z ↦ omega arith
      | inr full ↦ omega arith
    ] in
    record {
      ends = c.ends ∙ ends_last w w rest few;
      len = len;
      last = λ n four fits. (let room : n ≤ length line + length rest = elim c.full [ inl z ↦ omega arith | inr full ↦ omega arith ] in
          let at : count - length line + (length line + length rest - n) ≡ count + length rest - n = omega arith in (
            room,
            ap (drop (length line + length rest - n)) (sym tail) ∙ drop-drop (length line + length rest - n) (count - length line) (joined_from w w false text)
                ∙ ap (λ k. drop k (joined_from w w false text)) at,
          ));
    }

-- ---- the end of a text

pub last_ending : (text : List ℕ) → 0 < length text → ends_in_ending text ≡ is_line_break (slice_index text (length text - 1))
last_ending [] some = absurd (omega arith)
last_ending (c ∷ []) some = refl
last_ending (c ∷ d ∷ text) some =
    let e : length (c ∷ d ∷ text) - 1 ≡ suc (length (d ∷ text) - 1) = omega arith in
    rw e (last_ending (d ∷ text) (omega arith))

-- the last characters of a line and what follows it, as they are copied to a block
pub last_characters : (line rest zeros front back : List ℕ) (len behind : ℕ) → behind ≤ length rest → behind ≤ len → (behind < len → behind ≡ length rest)
    → len ≤ length line + length rest
    → front ≡ drop (length line - (len - behind)) line → back ≡ drop (length rest - behind) rest
    → take len (put_mid (len - behind) (len - (len - behind)) (front ++ zeros) back) ≡ drop (length line + length rest - len) (line ++ rest)
last_characters line rest zeros front back len behind few most full fits is_front is_back =
    let l1 : length front ≡ len - behind = ap length is_front ∙ length-drop (length line - (len - behind)) line
    ∙ (elim (cases_lt behind len) [ inl lt ↦ (let e = full lt in omega arith) | inr ge ↦ omega arith ]) in
    let l2 : length back ≡ behind = ap length is_back ∙ length-drop (length rest - behind) rest ∙ omega arith in
    let e1 : take (len - behind) (front ++ zeros) ≡ front = take_at front zeros (len - behind) l1 in
    let post : List ℕ = post_of (len - behind) (len - (len - behind)) (front ++ zeros) in
    let whole : put_mid (len - behind) (len - (len - behind)) (front ++ zeros) back ≡ (front ++ back)
    ++ post_of (len - behind) (len - (len - behind)) (front ++ zeros)
    = ap (λ (us : List ℕ). us ++ (back ++ post_of (len - behind) (len - (len - behind)) (front ++ zeros))) e1
    ∙ sym (append_assoc front back (post_of (len - behind) (len - (len - behind)) (front ++ zeros))) in
    let both : length (front ++ back) ≡ len = length-append front back ∙ omega arith in
    let cut : take len (put_mid (len - behind) (len - (len - behind)) (front ++ zeros) back) ≡ front ++ back = ap (take len) whole
    ∙ take_at (front ++ back) (post_of (len - behind) (len - (len - behind)) (front ++ zeros)) len both in
    cut ∙ elim (cases_lt behind len) [
      | inl lt ↦ (let e = full lt in
          let at : length line + length rest - len ≡ length line - (len - behind) = omega arith in
          let none : length rest - behind ≡ 0 = omega arith in
          rw (at, is_front, is_back, none) (sym (drop-append-le (length line - (len - behind)) line rest (omega arith))))
      | inr ge ↦ (let z : length line - (len - behind) ≡ length line = omega arith in
          let m : length rest - behind ≡ length rest - len = omega arith in
          let at : length line + length rest - len ≡ length line + (length rest - len) = omega arith in
          rw (is_front, z, drop_all (length line) line (omega arith), is_back, m, at)
          (ap (drop (length rest - len)) (sym (drop_at line rest (length line) refl)) ∙ drop-drop (length rest - len) (length line) (line ++ rest)))
    ]
