-- Lists of bytes by parts of 24.
use Rattle.std.proofs.Common.{◌≡◌, ℕ, zero, suc, ◌+◌, ◌-◌, ◌*◌, ◌/◌, ◌%◌, ◌≤◌, List, [], ◌∷◌, ◌++◌, length, take, drop, arith, refl, ap, sym, ◌∙◌}
use Rattle.std.proofs.Common.{append_assoc, append-nil, length-drop}
use Rattle.std.proofs.lemmas.List.{take-append-drop, drop-drop, drop_all, length-take-le, take_at, drop_at}
use Rattle.std.proofs.lemmas.Slice.{take-put_mid, drop-put_mid}
use borrow.Rule.Slice.PartMut.{put_mid}
use Rattle.base64_alphabet.specs.Group.{End, High, Low, characters_of}
use Rattle.base64_alphabet.specs.Encoding.{characters}
use Rattle.base64_alphabet.proofs.EncodeLemmas.{characters_none}

pub characters-append : (end : End) (table : List ℕ) (m : ℕ) (xs ys : List ℕ) → length xs ≡ 3 * m
    → characters end table (xs ++ ys) ≡ characters end table xs ++ characters end table ys
unfolding characters
characters-append end table zero [] ys e = refl
characters-append end table zero (a ∷ xs) ys e = absurd (omega arith)
characters-append end table (suc m) (a ∷ b ∷ c ∷ xs) ys e =
    ap (λ r. characters_of end table a b c ++ r) (characters-append end table m xs ys (omega arith))
    ∙ sym (append_assoc (characters_of end table a b c) (characters end table xs) (characters end table ys))
characters-append end table (suc m) [] ys e = absurd (omega arith)
characters-append end table (suc m) (a ∷ []) ys e = absurd (omega arith)
characters-append end table (suc m) (a ∷ b ∷ []) ys e = absurd (omega arith)

length-characters : (end : End) (table : List ℕ) (m : ℕ) (xs : List ℕ) → length xs ≡ 3 * m → length (characters end table xs) ≡ 4 * m
unfolding characters
length-characters end table zero [] e = refl
length-characters end table zero (a ∷ xs) e = absurd (omega arith)
length-characters High table (suc m) (a ∷ b ∷ c ∷ xs) e = let n = length-characters High table m xs (omega arith) in omega arith
length-characters Low table (suc m) (a ∷ b ∷ c ∷ xs) e = let n = length-characters Low table m xs (omega arith) in omega arith
length-characters end table (suc m) [] e = absurd (omega arith)
length-characters end table (suc m) (a ∷ []) e = absurd (omega arith)
length-characters end table (suc m) (a ∷ b ∷ []) e = absurd (omega arith)

-- the part at place k, and the rest
part_split : (src : List ℕ) (k : ℕ) → drop (24 * k) src ≡ take 24 (drop (24 * k) src) ++ drop (24 * (k + 1)) src
part_split src k =
    let e : 24 * k + 24 ≡ 24 * (k + 1) = omega arith in
    rw (← e, ← drop-drop 24 (24 * k) src) (sym (take-append-drop 24 (drop (24 * k) src)))

part_characters : (end : End) (table src part : List ℕ) (k : ℕ) → part ≡ take 24 (drop (24 * k) src) → 24 * k + 24 ≤ length src
    → characters end table (drop (24 * k) src) ≡ characters end table part ++ characters end table (drop (24 * (k + 1)) src)
part_characters end table src part k is room =
    let l = length-drop (24 * k) src in
    let long : length (take 24 (drop (24 * k) src)) ≡ 24 = length-take-le 24 (drop (24 * k) src) (omega arith) in
    rw is (ap (characters end table) (part_split src k) ∙ characters-append end table 8 (take 24 (drop (24 * k) src)) (drop (24 * (k + 1)) src) long)

pub written_step : (end : End) (table src part dst new : List ℕ) (k : ℕ) → part ≡ take 24 (drop (24 * k) src) → 24 * k + 24 ≤ length src
    → 32 * k + 32 ≤ length dst
    → length new ≡ 32 → new ≡ characters end table part
    → (t : List ℕ) → take (32 * k) dst ++ characters end table (drop (24 * k) src) ≡ t
    → take (32 * (k + 1)) (put_mid (32 * k) (32 * k + 32 - 32 * k) dst new) ++ characters end table (drop (24 * (k + 1)) src) ≡ t
written_step end table src part dst new k is room space long was t h =
    let front : take (32 * (k + 1)) (put_mid (32 * k) (32 * k + 32 - 32 * k) dst new) ≡ take (32 * k) dst ++ new =
    take-put_mid (32 * k) (32 * k + 32 - 32 * k) dst new (32 * (k + 1)) (omega arith) (omega arith) in
    let e : take (32 * k) dst ++ (characters end table part ++ characters end table (drop (24 * (k + 1)) src)) ≡ t =
    rw (part_characters end table src part k is room) at h in
    rw (front, was, append_assoc) e

pub rest_step : (dst new first : List ℕ) (k : ℕ) → 32 * k + 32 ≤ length dst → length new ≡ 32
    → drop (32 * k) dst ≡ drop (32 * k) first
    → drop (32 * (k + 1)) (put_mid (32 * k) (32 * k + 32 - 32 * k) dst new) ≡ drop (32 * (k + 1)) first
rest_step dst new first k space long h =
    let e : 32 * k + 32 ≡ 32 * (k + 1) = omega arith in
    let front : drop (32 * (k + 1)) (put_mid (32 * k) (32 * k + 32 - 32 * k) dst new) ≡ drop (32 * (k + 1)) dst =
    drop-put_mid (32 * k) (32 * k + 32 - 32 * k) dst new (32 * (k + 1)) (omega arith) (omega arith) (omega arith) in
    front ∙ sym (ap (λ n. drop n dst) e) ∙ sym (drop-drop 32 (32 * k) dst) ∙ ap (drop 32) h ∙ drop-drop 32 (32 * k) first ∙ ap (λ n. drop n first) e

pub written_end : (end : End) (table src dst first : List ℕ) (k q : ℕ) → length src % 24 ≡ 0 → q ≡ length src / 24 → q ≤ k → k ≤ q
    → take (32 * k) dst ++ characters end table (drop (24 * k) src) ≡ characters end table src → drop (32 * k) dst ≡ drop (32 * k) first
    → dst ≡ characters end table src ++ drop (32 * q) first
written_end end table src dst first k q whole is above below h rest =
    let e : k ≡ q = omega arith in
    let none : drop (24 * k) src ≡ [] = drop_all (24 * k) src (omega arith) in
    let text : characters end table src ≡ take (32 * k) dst = sym h ∙ ap (λ xs. take (32 * k) dst ++ characters end table xs) none
    ∙ ap (λ xs. take (32 * k) dst ++ xs) (characters_none end table) ∙ append-nil (take (32 * k) dst) in
    rw (← e, text, ← rest) (sym (take-append-drop (32 * k) dst))

-- the parts, and then the rest
pub run_written : (end : End) (table src first second last new : List ℕ) (p r q : ℕ) → q ≡ 32 * p + r → 24 * p ≤ length src → 32 * p ≤ length first
    → second ≡ characters end table (take (24 * p) src) ++ drop (32 * p) first
    → last ≡ take (32 * p) second ++ new → new ≡ characters end table (drop (24 * p) src) ++ drop r (drop (32 * p) second)
    → last ≡ characters end table src ++ drop q first
run_written end table src first second last new p r q is room space front put more =
    let len : length (take (24 * p) src) ≡ 3 * (8 * p) = length-take-le (24 * p) src room ∙ omega arith in
    let long : length (characters end table (take (24 * p) src)) ≡ 32 * p = length-characters end table (8 * p) (take (24 * p) src) len ∙ omega arith in
    let head : take (32 * p) second ≡ characters end table (take (24 * p) src) = ap (take (32 * p)) front
    ∙ take_at (characters end table (take (24 * p) src)) (drop (32 * p) first) (32 * p) long in
    let kept : drop (32 * p) second ≡ drop (32 * p) first = ap (drop (32 * p)) front
    ∙ drop_at (characters end table (take (24 * p) src)) (drop (32 * p) first) (32 * p) long in
    let tail : drop r (drop (32 * p) second) ≡ drop q first = ap (drop r) kept ∙ drop-drop r (32 * p) first ∙ ap (λ n. drop n first) (sym is) in
    put ∙ (λ i. head i ++ (more ∙ ap (λ xs. characters end table (drop (24 * p) src) ++ xs) tail) i)
    ∙ sym (append_assoc (characters end table (take (24 * p) src)) (characters end table (drop (24 * p) src)) (drop q first))
    ∙ ap (λ xs. xs ++ drop q first) (sym (characters-append end table (8 * p) (take (24 * p) src) (drop (24 * p) src) len)
    ∙ ap (characters end table) (take-append-drop (24 * p) src))
