-- What an encoder writes.
use Rattle.std.proofs.Common.{◌≡◌, ℕ, ◌+◌, ◌-◌, ◌*◌, ◌/◌, ◌%◌, ◌<◌, ◌≤◌, Bool, true, false, List, [], ◌∷◌, ◌++◌, length, take, drop, arith, refl, ap, sym, ◌∙◌}
use Rattle.std.proofs.Common.{append_assoc, append-nil, length-append, length-drop}
use Rattle.std.proofs.lemmas.List.{drop_all, length-take-le, take-append-drop, take_all, take_at}
use Rattle.std.proofs.Math.Seq.{drop-append-add, take-append-add}
use borrow.Rule.Slice.PartMut.{post_of, put_mid}
use Rattle.base64_alphabet.proofs.Forms.{form}
use Rattle.base64_alphabet.specs.Encoding.{characters, encoding_of}
use Rattle.base64_alphabet.specs.Group.{End}
use Rattle.base64_text.specs.Counts.{encoded_len}
use Rattle.base64ct.specs.Encoder.{whole_groups}
use Rattle.base64_text.proofs.EncodingLemmas.{empty_encoding}
use Rattle.base64_text.proofs.Texts.{characters-append}
use Rattle.base64_text.proofs.WholeLemmas.{encoding_of-append}

-- a write to the end leaves nothing behind it
post_none : (a k : ℕ) (xs : List ℕ) → length xs ≤ a + k → post_of a k xs ≡ []
post_none a k xs le = let l : length (drop a xs) ≡ length xs - a = length-drop a xs in drop_all k (drop a xs) (omega arith)

-- the encoding of whole groups has no padding
pub whole_encoding : (end : End) (table : List ℕ) (padded : Bool) (b : List ℕ) → length b % 3 ≡ 0 → encoding_of (form end table padded) b
    ≡ characters end table b
whole_encoding end table padded b whole =
    ap (encoding_of (form end table padded)) (sym (append-nil b)) ∙ encoding_of-append end table b [] padded whole
    ∙ ap (λ xs. characters end table b ++ xs) (empty_encoding end table padded) ∙ append-nil (characters end table b)

pub whole_len : (padded : Bool) (n : ℕ) → n % 3 ≡ 0 → encoded_len padded n ≡ 4 * (n / 3)
whole_len true n whole = omega arith
whole_len false n whole = omega arith

-- what was written where it was to fill an output of whole groups
filled : (end : End) (table : List ℕ) (padded : Bool) (b out : List ℕ) (n : ℕ) → length b % 3 ≡ 0 → n ≡ encoded_len padded (length b)
    → length out ≡ 4 * (length b / 3) → take n out ≡ encoding_of (form end table padded) b → out ≡ characters end table b
filled end table padded b out n whole is len text =
    let l = whole_len padded (length b) whole in
    sym (take_all n out (omega arith)) ∙ text ∙ whole_encoding end table padded b whole

-- a group that is completed, and whole groups behind it
record Cut (p : ℕ) (block input head rest : List ℕ) : Type 0 where
  size : length (take p block ++ head) ≡ 3
  whole : take p block ++ input ≡ (take p block ++ head) ++ rest
  full : put_mid p (3 - p) block head ≡ take p block ++ head

cut : (p : ℕ) (block input head rest : List ℕ) → p < 3 → length block ≡ 3 → 3 - p ≤ length input → head ≡ take (3 - p) input → rest ≡ drop (3 - p) input
    → Cut p block input head rest
cut p block input head rest few three long is_head is_rest =
    let k : length (take p block) ≡ p = length-take-le p block (omega arith) in
    let h : length head ≡ 3 - p = ap length is_head ∙ length-take-le (3 - p) input long in
    record {
      size = (let a = length-append (take p block) head in omega arith);
      whole = ap (λ xs. take p block ++ xs) (sym (take-append-drop (3 - p) input) ∙ rw (is_head, is_rest) refl) ∙ sym (append_assoc (take p block) head rest);
      full = ap (λ xs. take p block ++ (head ++ xs)) (post_none p (3 - p) block (omega arith)) ∙ ap (λ xs. take p block ++ xs) (append-nil head);
    }

pub groups_written : (end : End) (table : List ℕ) (padded : Bool) (p n m : ℕ) (block input head rest groups copied out first second : List ℕ) → p < 3
    → length block ≡ 3 → 3 - p ≤ length input
    → length out ≡ 4 * ((p + length input) / 3) → head ≡ take (3 - p) input → rest ≡ drop (3 - p) input → copied ≡ head
    → groups ≡ take (3 * (length rest / 3)) rest
    → n ≡ encoded_len padded (length (put_mid p (3 - p) block copied)) → take n first ≡ encoding_of (form end table padded) (put_mid p (3 - p) block copied)
    → length first ≡ 4
    → m ≡ encoded_len padded (length groups) → take m second ≡ encoding_of (form end table padded) groups → length second ≡ length out - 4
    → put_mid 4 (length (first ++ drop 4 out) - 4) (first ++ drop 4 out) second ≡ characters end table (whole_groups (take p block ++ input))
groups_written end table padded p n m block input head rest groups copied out first second few three long room is_head is_rest is_copied is_groups n_is
    first_text first_len m_is second_text second_len =
    let c = cut p block input head rest few three long is_head is_rest in
    let size = c.size in
    let bytes : List ℕ = take p block ++ head in
    let done : put_mid p (3 - p) block copied ≡ bytes = ap (put_mid p (3 - p) block) is_copied ∙ c.full in
    let r : length rest ≡ length input - (3 - p) = ap length is_rest ∙ length-drop (3 - p) input in
    let g : length groups ≡ 3 * (length rest / 3) = ap length is_groups ∙ length-take-le (3 * (length rest / 3)) rest (omega arith) in
    let one : first ≡ characters end table bytes = filled end table padded bytes first n (omega arith) (rw done at n_is) (omega arith)
    (rw done at first_text) in
    let two : second ≡ characters end table groups = filled end table padded groups second m (omega arith) m_is (omega arith) second_text in
    let l = length-append first (drop 4 out) in
    let total = ap length c.whole in
    let parts = length-append bytes rest in
    let both = length-append (take p block) input in
    let k : length (take p block) ≡ p = length-take-le p block (omega arith) in
    let q : 3 * (length (take p block ++ input) / 3) ≡ length bytes + 3 * (length rest / 3) = omega arith in
    let text : whole_groups (take p block ++ input) ≡ bytes ++ groups
    = ap (λ i. take i (take p block ++ input)) q ∙ ap (take (length bytes + 3 * (length rest / 3))) c.whole
    ∙ take-append-add bytes rest (3 * (length rest / 3)) ∙ ap (λ xs. bytes ++ xs) (sym is_groups) in
    ap (λ xs. take 4 (first ++ drop 4 out) ++ (second ++ xs)) (post_none 4 (length (first ++ drop 4 out) - 4) (first ++ drop 4 out) (omega arith))
    ∙ ap (λ xs. take 4 (first ++ drop 4 out) ++ xs) (append-nil second) ∙ ap (λ xs. xs ++ second) (take_at first (drop 4 out) 4 first_len)
    ∙ rw (one, two) (sym (characters-append end table bytes groups (omega arith))) ∙ ap (characters end table) (sym text)

pub groups_kept : (p : ℕ) (block input head rest last copied tail : List ℕ) → p < 3 → length block ≡ 3 → 3 - p ≤ length input
    → head ≡ take (3 - p) input → rest ≡ drop (3 - p) input → last ≡ drop (3 * (length rest / 3)) rest → copied ≡ last
    → take ((p + length input) % 3) (copied ++ tail) ≡ drop (3 * ((p + length input) / 3)) (take p block ++ input)
groups_kept p block input head rest last copied tail few three long is_head is_rest is_last is_copied =
    let c = cut p block input head rest few three long is_head is_rest in
    let size = c.size in
    let bytes : List ℕ = take p block ++ head in
    let r : length rest ≡ length input - (3 - p) = ap length is_rest ∙ length-drop (3 - p) input in
    let d : length copied ≡ length rest - 3 * (length rest / 3) = ap length is_copied ∙ ap length is_last ∙ length-drop (3 * (length rest / 3)) rest in
    let q : 3 * ((p + length input) / 3) ≡ length bytes + 3 * (length rest / 3) = omega arith in
    take_at copied tail ((p + length input) % 3) (omega arith) ∙ is_copied ∙ is_last
    ∙ sym (ap (λ i. drop i (take p block ++ input)) q ∙ ap (drop (length bytes + 3 * (length rest / 3))) c.whole
    ∙ drop-append-add bytes rest (3 * (length rest / 3)))

-- fewer than three bytes are no group
pub no_group : (end : End) (table b out : List ℕ) → length b < 3 → length out ≡ 0 → out ≡ characters end table (whole_groups b)
unfolding characters
no_group end table b (x ∷ out) few none = absurd (omega arith)
no_group end table b [] few none = let q : 3 * (length b / 3) ≡ 0 = omega arith in rw q refl
