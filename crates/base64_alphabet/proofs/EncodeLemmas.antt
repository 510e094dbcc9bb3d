-- Whole bytes_of_blocks, one after another.
use Rattle.std.proofs.Common.{◌≡◌, ℕ, ◌+◌, ◌-◌, ◌*◌, ◌/◌, ◌%◌, ◌≤◌, List, [], ◌∷◌, ◌++◌, length, slice_index, take, drop, arith, refl, ap, sym, ◌∙◌}
use Rattle.std.proofs.Common.{append_assoc, append-nil}
use Rattle.std.proofs.lemmas.Grind.{common_steps}
use Rattle.std.proofs.lemmas.List.{take-append-drop, drop-drop, drop_all}
use Rattle.std.proofs.lemmas.Slice.{take-put_mid, drop-put_mid}
use borrow.Rule.Slice.PartMut.{put_mid}
use Rattle.base64_alphabet.specs.Group.{End, characters_of}
use Rattle.base64_alphabet.specs.Encoding.{characters}

characters_three : (end : End) (table xs ys : List ℕ) → length xs ≡ 3
    → characters end table (xs ++ ys) ≡ characters_of end table (slice_index xs 0) (slice_index xs 1) (slice_index xs 2) ++ characters end table ys
unfolding characters
characters_three end table (a ∷ b ∷ c ∷ []) ys h = refl
characters_three end table [] ys h = absurd (omega arith)
characters_three end table (a ∷ []) ys h = absurd (omega arith)
characters_three end table (a ∷ b ∷ []) ys h = absurd (omega arith)
characters_three end table (a ∷ b ∷ c ∷ d ∷ xs) ys h = absurd (omega arith)

pub characters_none : (end : End) (table : List ℕ) → characters end table [] ≡ []
unfolding characters
characters_none end table = refl

group_split : (src : List ℕ) (k : ℕ) → drop (3 * k) src ≡ take 3 (drop (3 * k) src) ++ drop (3 * (k + 1)) src
group_split src k =
    let e : 3 * k + 3 ≡ 3 * (k + 1) = omega arith in
    rw (← e, ← drop-drop 3 (3 * k) src) (sym (take-append-drop 3 (drop (3 * k) src)))

pub encoded_step : (end : End) (table src part dst new : List ℕ) (k : ℕ) → part ≡ take 3 (drop (3 * k) src) → 3 * k + 3 ≤ length src → 4 * k + 4 ≤ length dst
    → length new ≡ 4 → new ≡ characters_of end table (slice_index part 0) (slice_index part 1) (slice_index part 2) ++ []
    → (t : List ℕ) → take (4 * k) dst ++ characters end table (drop (3 * k) src) ≡ t
    → take (4 * (k + 1)) (put_mid (4 * k) (4 * k + 4 - 4 * k) dst new) ++ characters end table (drop (3 * (k + 1)) src) ≡ t
encoded_step end table src part dst new k is room space four was t h =
    let three : length (take 3 (drop (3 * k) src)) ≡ 3 = grind (arith, common_steps) in
    let g : List ℕ = characters_of end table (slice_index part 0) (slice_index part 1) (slice_index part 2) in
    let is_new : new ≡ g = was ∙ append-nil g in
    let front : take (4 * (k + 1)) (put_mid (4 * k) (4 * k + 4 - 4 * k) dst new) ≡ take (4 * k) dst ++ new =
    take-put_mid (4 * k) (4 * k + 4 - 4 * k) dst new (4 * (k + 1)) (omega arith) (omega arith) in
    let cut : characters end table (drop (3 * k) src) ≡ g ++ characters end table (drop (3 * (k + 1)) src)
    = rw is (ap (characters end table) (group_split src k) ∙ characters_three end table (take 3 (drop (3 * k) src)) (drop (3 * (k + 1)) src) three) in
    let e : take (4 * k) dst ++ (g ++ characters end table (drop (3 * (k + 1)) src)) ≡ t = rw cut at h in
    rw (front, is_new, append_assoc) e

pub rest_step : (dst new first : List ℕ) (k : ℕ) → 4 * k + 4 ≤ length dst → length new ≡ 4 → drop (4 * k) dst ≡ drop (4 * k) first
    → drop (4 * (k + 1)) (put_mid (4 * k) (4 * k + 4 - 4 * k) dst new) ≡ drop (4 * (k + 1)) first
rest_step dst new first k space four h =
    let e : 4 * k + 4 ≡ 4 * (k + 1) = omega arith in
    let front : drop (4 * (k + 1)) (put_mid (4 * k) (4 * k + 4 - 4 * k) dst new) ≡ drop (4 * (k + 1)) dst =
    drop-put_mid (4 * k) (4 * k + 4 - 4 * k) dst new (4 * (k + 1)) (omega arith) (omega arith) (omega arith) in
    front ∙ sym (ap (λ n. drop n dst) e) ∙ sym (drop-drop 4 (4 * k) dst) ∙ ap (drop 4) h ∙ drop-drop 4 (4 * k) first ∙ ap (λ n. drop n first) e

pub encoded_end : (end : End) (table src dst first : List ℕ) (k q : ℕ) → length src % 3 ≡ 0 → q ≡ length src / 3 → q ≤ k → k ≤ q
    → take (4 * k) dst ++ characters end table (drop (3 * k) src) ≡ characters end table src → drop (4 * k) dst ≡ drop (4 * k) first
    → dst ≡ characters end table src ++ drop (4 * q) first
encoded_end end table src dst first k q whole is above below h rest =
    let e : k ≡ q = omega arith in
    let none : drop (3 * k) src ≡ [] = drop_all (3 * k) src (omega arith) in
    let bytes : characters end table src ≡ take (4 * k) dst = sym h ∙ ap (λ xs. take (4 * k) dst ++ characters end table xs) none
    ∙ ap (λ xs. take (4 * k) dst ++ xs) (characters_none end table) ∙ append-nil (take (4 * k) dst) in
    rw (← e, bytes, ← rest) (sym (take-append-drop (4 * k) dst))
