-- Lists of characters by blocks of four.
use Rattle.std.proofs.Common.{◌≡◌, ℕ, ◌+◌, ◌-◌, ◌*◌, ◌/◌, ◌%◌, ◌≤◌, Bool, true, false, ◌&&◌, List, [], ◌∷◌, ◌++◌, ℤ, pos, length, slice_index, take, drop}
use Rattle.std.proofs.Common.{arith, refl, if◌then◌else◌, ap, sym, ◌∙◌, nat_eq, of_z, append_assoc, append-nil}
use Rattle.std.proofs.lemmas.Bool.{and_parts}
use Rattle.std.proofs.lemmas.Grind.{common_steps}
use Rattle.std.proofs.lemmas.List.{take-append-drop, drop-drop, drop_all}
use Rattle.std.proofs.lemmas.Slice.{take-put_mid, drop-put_mid}
use borrow.Rule.Slice.PartMut.{put_mid}
use mir.Syntax.{w16}
use Rattle.base64_alphabet.specs.Table.{all_in, is_in}
use Rattle.base64_alphabet.specs.Group.{bytes_of, End}
use Rattle.base64_alphabet.specs.Encoding.{bytes_of_blocks}

pub and_assoc : (a b c : Bool) → (a && (b && c)) ≡ ((a && b) && c)
and_assoc true b c = refl
and_assoc false b c = refl

pub all_in-append : (table xs ys : List ℕ) → all_in table (xs ++ ys) ≡ (all_in table xs && all_in table ys)
all_in-append table [] ys = refl
all_in-append table (x ∷ xs) ys = rw (all_in-append table xs ys) (and_assoc (is_in table x) (all_in table xs) (all_in table ys))

pub bytes_of_blocks-block : (end : End) (table xs ys : List ℕ) → length xs ≡ 4
    → bytes_of_blocks end table (xs ++ ys) ≡ bytes_of end table (slice_index xs 0) (slice_index xs 1) (slice_index xs 2) (slice_index xs 3)
    ++ bytes_of_blocks end table ys
unfolding bytes_of_blocks
bytes_of_blocks-block end table (a ∷ b ∷ c ∷ d ∷ []) ys h = refl
bytes_of_blocks-block end table [] ys h = absurd (omega arith)
bytes_of_blocks-block end table (a ∷ []) ys h = absurd (omega arith)
bytes_of_blocks-block end table (a ∷ b ∷ []) ys h = absurd (omega arith)
bytes_of_blocks-block end table (a ∷ b ∷ c ∷ []) ys h = absurd (omega arith)
bytes_of_blocks-block end table (a ∷ b ∷ c ∷ d ∷ e ∷ xs) ys h = absurd (omega arith)

pub bytes_of_blocks-none : (end : End) (table : List ℕ) → bytes_of_blocks end table [] ≡ []
unfolding bytes_of_blocks
bytes_of_blocks-none end table = refl

-- the block at place k, and the rest
pub block_split : (src : List ℕ) (k : ℕ) → drop (4 * k) src ≡ take 4 (drop (4 * k) src) ++ drop (4 * (k + 1)) src
block_split src k =
    let e : 4 * k + 4 ≡ 4 * (k + 1) = omega arith in
    rw (← e, ← drop-drop 4 (4 * k) src) (sym (take-append-drop 4 (drop (4 * k) src)))

answer_zero : (p : Bool) (r : ℤ) → r ≡ (if p then pos 0 else pos 1) → nat_eq (of_z w16 r) 0 ≡ p
answer_zero true r h = rw h refl
answer_zero false r h = rw h refl

pub answer_step : (table src part : List ℕ) (good whole : Bool) (k : ℕ) (r : ℤ) → part ≡ take 4 (drop (4 * k) src)
    → whole ≡ (good && all_in table (drop (4 * k) src)) → r ≡ (if all_in table part then pos 0 else pos 1)
    → whole ≡ ((good && nat_eq (of_z w16 r) 0) && all_in table (drop (4 * (k + 1)) src))
answer_step table src part good whole k r is h answer =
    rw (
      answer_zero (all_in table part) r answer,
      is,
      ← and_assoc good (all_in table (take 4 (drop (4 * k) src))) (all_in table (drop (4 * (k + 1)) src)),
      ← all_in-append table (take 4 (drop (4 * k) src)) (drop (4 * (k + 1)) src),
      ← block_split src k,
    ) h

pub part_in : (table src part : List ℕ) (good : Bool) (k : ℕ) → part ≡ take 4 (drop (4 * k) src)
    → (good && all_in table (drop (4 * k) src)) ≡ true → all_in table part ≡ true
part_in table src part good k is h =
    let rest = (and_parts good (all_in table (drop (4 * k) src)) h).1 in
    rw is ((and_parts (all_in table (take 4 (drop (4 * k) src))) (all_in table (drop (4 * (k + 1)) src))
    (rw (← all_in-append table (take 4 (drop (4 * k) src)) (drop (4 * (k + 1)) src), ← block_split src k) rest)).0)

block_split_at : (end : End) (table src part : List ℕ) (k : ℕ) → part ≡ take 4 (drop (4 * k) src) → 4 * k + 4 ≤ length src
    → bytes_of_blocks end table (drop (4 * k) src) ≡ bytes_of end table (slice_index part 0) (slice_index part 1) (slice_index part 2) (slice_index part 3)
    ++ bytes_of_blocks end table (drop (4 * (k + 1)) src)
block_split_at end table src part k is room =
    let four : length (take 4 (drop (4 * k) src)) ≡ 4 = grind (arith, common_steps) in
    rw is (ap (bytes_of_blocks end table) (block_split src k) ∙ bytes_of_blocks-block end table (take 4 (drop (4 * k) src)) (drop (4 * (k + 1)) src) four)

pub written_step : (end : End) (table src part dst new old : List ℕ) (k : ℕ) → part ≡ take 4 (drop (4 * k) src) → 4 * k + 4 ≤ length src
    → 3 * k + 3 ≤ length dst
    → length new ≡ 3 → length old ≡ 3
    → new ≡ bytes_of end table (slice_index part 0) (slice_index part 1) (slice_index part 2) (slice_index part 3) ++ drop 3 old
    → (t : List ℕ) → take (3 * k) dst ++ bytes_of_blocks end table (drop (4 * k) src) ≡ t
    → take (3 * (k + 1)) (put_mid (3 * k) (3 * k + 3 - 3 * k) dst new) ++ bytes_of_blocks end table (drop (4 * (k + 1)) src) ≡ t
written_step end table src part dst new old k is room space three long was t h =
    let none : drop 3 old ≡ [] = drop_all 3 old (omega arith) in
    let g : List ℕ = bytes_of end table (slice_index part 0) (slice_index part 1) (slice_index part 2) (slice_index part 3) in
    let is_new : new ≡ g = was ∙ ap (λ xs. g ++ xs) none ∙ append-nil g in
    let front : take (3 * (k + 1)) (put_mid (3 * k) (3 * k + 3 - 3 * k) dst new) ≡ take (3 * k) dst ++ new =
    take-put_mid (3 * k) (3 * k + 3 - 3 * k) dst new (3 * (k + 1)) (omega arith) (omega arith) in
    let e : take (3 * k) dst ++ (g ++ bytes_of_blocks end table (drop (4 * (k + 1)) src)) ≡ t = rw (block_split_at end table src part k is room) at h in
    rw (front, is_new, append_assoc) e

pub rest_step : (dst new first : List ℕ) (k : ℕ) → 3 * k + 3 ≤ length dst → length new ≡ 3
    → drop (3 * k) dst ≡ drop (3 * k) first
    → drop (3 * (k + 1)) (put_mid (3 * k) (3 * k + 3 - 3 * k) dst new) ≡ drop (3 * (k + 1)) first
rest_step dst new first k space three h =
    let e : 3 * k + 3 ≡ 3 * (k + 1) = omega arith in
    let front : drop (3 * (k + 1)) (put_mid (3 * k) (3 * k + 3 - 3 * k) dst new) ≡ drop (3 * (k + 1)) dst =
    drop-put_mid (3 * k) (3 * k + 3 - 3 * k) dst new (3 * (k + 1)) (omega arith) (omega arith) (omega arith) in
    front ∙ sym (ap (λ n. drop n dst) e) ∙ sym (drop-drop 3 (3 * k) dst) ∙ ap (drop 3) h ∙ drop-drop 3 (3 * k) first ∙ ap (λ n. drop n first) e

-- at the end
and_true : (b : Bool) → (b && true) ≡ b
and_true true = refl
and_true false = refl

pub answer_end : (table src : List ℕ) (good : Bool) (k : ℕ) → length src % 4 ≡ 0 → length src / 4 ≤ k
    → all_in table src ≡ (good && all_in table (drop (4 * k) src)) → good ≡ all_in table src
answer_end table src good k whole end h =
    let none : drop (4 * k) src ≡ [] = drop_all (4 * k) src (omega arith) in
    sym (h ∙ ap (λ xs. good && all_in table xs) none ∙ and_true good)

pub written_end : (end : End) (table src dst first : List ℕ) (k q : ℕ) → length src % 4 ≡ 0 → q ≡ length src / 4 → q ≤ k → k ≤ q
    → take (3 * k) dst ++ bytes_of_blocks end table (drop (4 * k) src) ≡ bytes_of_blocks end table src → drop (3 * k) dst ≡ drop (3 * k) first
    → dst ≡ bytes_of_blocks end table src ++ drop (3 * q) first
written_end end table src dst first k q whole is above below h rest =
    let e : k ≡ q = omega arith in
    let none : drop (4 * k) src ≡ [] = drop_all (4 * k) src (omega arith) in
    let bytes : bytes_of_blocks end table src ≡ take (3 * k) dst = sym h ∙ ap (λ xs. take (3 * k) dst ++ bytes_of_blocks end table xs) none
    ∙ ap (λ xs. take (3 * k) dst ++ xs) (bytes_of_blocks-none end table) ∙ append-nil (take (3 * k) dst) in
    rw (← e, bytes, ← rest) (sym (take-append-drop (3 * k) dst))
