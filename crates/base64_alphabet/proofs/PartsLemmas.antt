-- Lists of characters by parts of 32.
use Rattle.std.proofs.Common.{◌≡◌, ℕ, zero, suc, ◌+◌, ◌-◌, ◌*◌, ◌/◌, ◌%◌, ◌≤◌, Bool, true, false, ◌&&◌, ltb, List, [], ◌∷◌, ◌++◌, ℤ, length, map, take, drop}
use Rattle.std.proofs.Common.{arith, refl, ap, sym, ◌∙◌, append_assoc, append-nil, length-drop, to_z, of_z, inl, inr}
use Rattle.std.proofs.lemmas.Bool.{and_parts, cases_Bool, lt-ltb, le-ltb}
use Rattle.std.proofs.lemmas.List.{take-append-drop, drop-drop, drop_all, length-take-le, take_at, drop_at, take_all}
use Rattle.std.proofs.lemmas.Slice.{take-put_mid, drop-put_mid}
use Rattle.std.specs.Simd.Lanes.{all_below}
use Rattle.std.proofs.lemmas.Int.{ints}
use mir.Syntax.{w16}
use borrow.Rule.Slice.PartMut.{put_mid}
use Rattle.base64_alphabet.specs.Table.{all_in, is_in, place_of, digit_of, IsPlace}
use Rattle.base64_alphabet.specs.Group.{bytes_of, bytes_of_places, End, High, Low}
use Rattle.base64_alphabet.specs.Encoding.{bytes_of_blocks}
use Rattle.base64_alphabet.specs.Lanes.{low_byte, widened, bytes_of_digits}
use Rattle.base64_alphabet.proofs.TableLemmas.{digit_below, place_is_place}
use Rattle.base64_alphabet.proofs.BlocksLemmas.{all_in-append, and_assoc, bytes_of_blocks-none}

-- ---- the lanes of a part

low_place : (table : List ℕ) (c : ℕ) → length table ≡ 64 → is_in table c ≡ true → low_byte (place_of table c) ≡ digit_of table c
low_place table c len e =
    let lt = digit_below table c e in
    let small : digit_of table c % 256 ≡ digit_of table c = omega arith in
    rw e small

below_is_in : (table : List ℕ) (c : ℕ) → length table ≡ 64 → ltb (low_byte (place_of table c)) 64 ≡ is_in table c
below_is_in table c len = elim (cases_Bool (is_in table c)) [
  | inl e ↦ (let lt = digit_below table c e in rw (low_place table c len e, e) (lt-ltb (digit_of table c) 64 (omega arith)))
  | inr e ↦ rw e refl
]

pub all_below_are_in : (table text : List ℕ) → length table ≡ 64 → all_below 64 (map (λ c. low_byte (place_of table c)) text) ≡ all_in table text
all_below_are_in table [] len = refl
all_below_are_in table (c ∷ text) len = (λ i. below_is_in table c len i && all_below_are_in table text len i)

record Four (table : List ℕ) (a b c d : ℕ) (rest : List ℕ) : Type 0 where
  first : is_in table a ≡ true
  second : is_in table b ≡ true
  third : is_in table c ≡ true
  fourth : is_in table d ≡ true
  others : all_in table rest ≡ true

four : (table : List ℕ) (a b c d : ℕ) (rest : List ℕ) → all_in table (a ∷ b ∷ c ∷ d ∷ rest) ≡ true → Four table a b c d rest
four table a b c d rest h =
    let p = and_parts (is_in table a) (all_in table (b ∷ c ∷ d ∷ rest)) h in
    let q = and_parts (is_in table b) (all_in table (c ∷ d ∷ rest)) p.1 in
    let r = and_parts (is_in table c) (all_in table (d ∷ rest)) q.1 in
    let s = and_parts (is_in table d) (all_in table rest) r.1 in
    record { first = p.0; second = q.0; third = r.0; fourth = s.0; others = s.1 }

pub digits_are_blocks : (end : End) (table text : List ℕ) → length table ≡ 64 → all_in table text ≡ true
    → bytes_of_digits end (map (λ c. low_byte (place_of table c)) text) ≡ bytes_of_blocks end table text
unfolding bytes_of_digits bytes_of_blocks
digits_are_blocks end table (a ∷ b ∷ c ∷ d ∷ rest) len h =
    let f = four table a b c d rest h in
    (λ i. bytes_of_places end (low_place table a len f.first i) (low_place table b len f.second i) (low_place table c len f.third i)
    (low_place table d len f.fourth i) ++ digits_are_blocks end table rest len f.others i)
digits_are_blocks end table [] len h = refl
digits_are_blocks end table (a ∷ []) len h = refl
digits_are_blocks end table (a ∷ b ∷ []) len h = refl
digits_are_blocks end table (a ∷ b ∷ c ∷ []) len h = refl

widened_place : (table : List ℕ) (c : ℕ) → length table ≡ 64 → widened (low_byte (place_of table c)) ≡ place_of table c
widened_place table c len = elim (cases_Bool (is_in table c)) [
  | inl e ↦ (let lt = digit_below table c e in let f : ltb 63 (digit_of table c) ≡ false = le-ltb 63 (digit_of table c) (omega arith) in
      let small : digit_of table c % 256 ≡ digit_of table c = omega arith in rw (e, small, f) refl)
  | inr e ↦ rw e refl
]

pub widened_places : (table text : List ℕ) → length table ≡ 64 → map widened (map (λ c. low_byte (place_of table c)) text) ≡ map (place_of table) text
widened_places table [] len = refl
widened_places table (c ∷ text) len = (λ i. widened_place table c len i ∷ widened_places table text len i)

-- ---- parts one after the other

pub bytes_of_blocks-append : (end : End) (table : List ℕ) (m : ℕ) (xs ys : List ℕ) → length xs ≡ 4 * m
    → bytes_of_blocks end table (xs ++ ys) ≡ bytes_of_blocks end table xs ++ bytes_of_blocks end table ys
unfolding bytes_of_blocks
bytes_of_blocks-append end table zero [] ys e = refl
bytes_of_blocks-append end table zero (a ∷ xs) ys e = absurd (omega arith)
bytes_of_blocks-append end table (suc m) (a ∷ b ∷ c ∷ d ∷ xs) ys e =
    ap (λ r. bytes_of end table a b c d ++ r) (bytes_of_blocks-append end table m xs ys (omega arith))
    ∙ sym (append_assoc (bytes_of end table a b c d) (bytes_of_blocks end table xs) (bytes_of_blocks end table ys))
bytes_of_blocks-append end table (suc m) [] ys e = absurd (omega arith)
bytes_of_blocks-append end table (suc m) (a ∷ []) ys e = absurd (omega arith)
bytes_of_blocks-append end table (suc m) (a ∷ b ∷ []) ys e = absurd (omega arith)
bytes_of_blocks-append end table (suc m) (a ∷ b ∷ c ∷ []) ys e = absurd (omega arith)

-- the part at place k, and the rest
part_split : (src : List ℕ) (k : ℕ) → drop (32 * k) src ≡ take 32 (drop (32 * k) src) ++ drop (32 * (k + 1)) src
part_split src k =
    let e : 32 * k + 32 ≡ 32 * (k + 1) = omega arith in
    rw (← e, ← drop-drop 32 (32 * k) src) (sym (take-append-drop 32 (drop (32 * k) src)))

pub answer_step : (table src part : List ℕ) (good whole r : Bool) (k : ℕ) → part ≡ take 32 (drop (32 * k) src)
    → whole ≡ (good && all_in table (drop (32 * k) src)) → r ≡ all_in table part
    → whole ≡ ((good && r) && all_in table (drop (32 * (k + 1)) src))
answer_step table src part good whole r k is h answer =
    rw (
      answer,
      is,
      ← and_assoc good (all_in table (take 32 (drop (32 * k) src))) (all_in table (drop (32 * (k + 1)) src)),
      ← all_in-append table (take 32 (drop (32 * k) src)) (drop (32 * (k + 1)) src),
      ← part_split src k,
    ) h

pub part_in : (table src part : List ℕ) (good : Bool) (k : ℕ) → part ≡ take 32 (drop (32 * k) src)
    → (good && all_in table (drop (32 * k) src)) ≡ true → all_in table part ≡ true
part_in table src part good k is h =
    let rest = (and_parts good (all_in table (drop (32 * k) src)) h).1 in
    rw is ((and_parts (all_in table (take 32 (drop (32 * k) src))) (all_in table (drop (32 * (k + 1)) src))
    (rw (← all_in-append table (take 32 (drop (32 * k) src)) (drop (32 * (k + 1)) src), ← part_split src k) rest)).0)

part_bytes : (end : End) (table src part : List ℕ) (k : ℕ) → part ≡ take 32 (drop (32 * k) src) → 32 * k + 32 ≤ length src
    → bytes_of_blocks end table (drop (32 * k) src) ≡ bytes_of_blocks end table part ++ bytes_of_blocks end table (drop (32 * (k + 1)) src)
part_bytes end table src part k is room =
    let l = length-drop (32 * k) src in
    let long : length (take 32 (drop (32 * k) src)) ≡ 32 = length-take-le 32 (drop (32 * k) src) (omega arith) in
    rw is (ap (bytes_of_blocks end table) (part_split src k) ∙ bytes_of_blocks-append end table 8 (take 32 (drop (32 * k) src)) (drop (32 * (k + 1)) src) long)

pub written_step : (end : End) (table src part dst new : List ℕ) (k : ℕ) → part ≡ take 32 (drop (32 * k) src) → 32 * k + 32 ≤ length src
    → 24 * k + 24 ≤ length dst
    → length new ≡ 24 → new ≡ bytes_of_blocks end table part
    → (t : List ℕ) → take (24 * k) dst ++ bytes_of_blocks end table (drop (32 * k) src) ≡ t
    → take (24 * (k + 1)) (put_mid (24 * k) (24 * k + 24 - 24 * k) dst new) ++ bytes_of_blocks end table (drop (32 * (k + 1)) src) ≡ t
written_step end table src part dst new k is room space long was t h =
    let front : take (24 * (k + 1)) (put_mid (24 * k) (24 * k + 24 - 24 * k) dst new) ≡ take (24 * k) dst ++ new =
    take-put_mid (24 * k) (24 * k + 24 - 24 * k) dst new (24 * (k + 1)) (omega arith) (omega arith) in
    let e : take (24 * k) dst ++ (bytes_of_blocks end table part ++ bytes_of_blocks end table (drop (32 * (k + 1)) src)) ≡ t =
    rw (part_bytes end table src part k is room) at h in
    rw (front, was, append_assoc) e

pub rest_step : (dst new first : List ℕ) (k : ℕ) → 24 * k + 24 ≤ length dst → length new ≡ 24
    → drop (24 * k) dst ≡ drop (24 * k) first
    → drop (24 * (k + 1)) (put_mid (24 * k) (24 * k + 24 - 24 * k) dst new) ≡ drop (24 * (k + 1)) first
rest_step dst new first k space long h =
    let e : 24 * k + 24 ≡ 24 * (k + 1) = omega arith in
    let front : drop (24 * (k + 1)) (put_mid (24 * k) (24 * k + 24 - 24 * k) dst new) ≡ drop (24 * (k + 1)) dst =
    drop-put_mid (24 * k) (24 * k + 24 - 24 * k) dst new (24 * (k + 1)) (omega arith) (omega arith) (omega arith) in
    front ∙ sym (ap (λ n. drop n dst) e) ∙ sym (drop-drop 24 (24 * k) dst) ∙ ap (drop 24) h ∙ drop-drop 24 (24 * k) first ∙ ap (λ n. drop n first) e

-- ---- the parts, and then the rest

pub both_in : (table src : List ℕ) (n : ℕ) → (all_in table (take n src) && all_in table (drop n src)) ≡ all_in table src
both_in table src n = sym (all_in-append table (take n src) (drop n src)) ∙ ap (all_in table) (take-append-drop n src)

length-blocks : (end : End) (table : List ℕ) (m : ℕ) (xs : List ℕ) → length xs ≡ 4 * m → length (bytes_of_blocks end table xs) ≡ 3 * m
unfolding bytes_of_blocks
length-blocks High table zero [] e = refl
length-blocks Low table zero [] e = refl
length-blocks end table zero (a ∷ xs) e = absurd (omega arith)
length-blocks High table (suc m) (a ∷ b ∷ c ∷ d ∷ xs) e = let n = length-blocks High table m xs (omega arith) in omega arith
length-blocks Low table (suc m) (a ∷ b ∷ c ∷ d ∷ xs) e = let n = length-blocks Low table m xs (omega arith) in omega arith
length-blocks end table (suc m) [] e = absurd (omega arith)
length-blocks end table (suc m) (a ∷ []) e = absurd (omega arith)
length-blocks end table (suc m) (a ∷ b ∷ []) e = absurd (omega arith)
length-blocks end table (suc m) (a ∷ b ∷ c ∷ []) e = absurd (omega arith)

pub run_rest : (first second last new : List ℕ) (p r q : ℕ) → q ≡ 24 * p + r → drop (24 * p) second ≡ drop (24 * p) first
    → drop (24 * p) last ≡ new → drop r new ≡ drop r (drop (24 * p) second) → drop q last ≡ drop q first
run_rest first second last new p r q is kept put rest =
    ap (λ n. drop n last) is ∙ sym (drop-drop r (24 * p) last) ∙ ap (drop r) put ∙ rest ∙ ap (drop r) kept ∙ drop-drop r (24 * p) first
    ∙ ap (λ n. drop n first) (sym is)

pub run_written : (end : End) (table src first second last new : List ℕ) (p r q : ℕ) → q ≡ 24 * p + r → 32 * p ≤ length src
    → second ≡ bytes_of_blocks end table (take (32 * p) src) ++ drop (24 * p) first → drop (24 * p) second ≡ drop (24 * p) first
    → last ≡ take (24 * p) second ++ new → new ≡ bytes_of_blocks end table (drop (32 * p) src) ++ drop r (drop (24 * p) second)
    → last ≡ bytes_of_blocks end table src ++ drop q first
run_written end table src first second last new p r q is room front kept put more =
    let len : length (take (32 * p) src) ≡ 4 * (8 * p) = length-take-le (32 * p) src room ∙ omega arith in
    let long : length (bytes_of_blocks end table (take (32 * p) src)) ≡ 24 * p = length-blocks end table (8 * p) (take (32 * p) src) len ∙ omega arith in
    let head : take (24 * p) second ≡ bytes_of_blocks end table (take (32 * p) src) = ap (take (24 * p)) front
    ∙ take_at (bytes_of_blocks end table (take (32 * p) src)) (drop (24 * p) first) (24 * p) long in
    let tail : drop r (drop (24 * p) second) ≡ drop q first = ap (drop r) kept ∙ drop-drop r (24 * p) first ∙ ap (λ n. drop n first) (sym is) in
    put ∙ (λ i. head i ++ (more ∙ ap (λ xs. bytes_of_blocks end table (drop (32 * p) src) ++ xs) tail) i)
    ∙ sym (append_assoc (bytes_of_blocks end table (take (32 * p) src)) (bytes_of_blocks end table (drop (32 * p) src)) (drop q first))
    ∙ ap (λ xs. xs ++ drop q first) (sym (bytes_of_blocks-append end table (8 * p) (take (32 * p) src) (drop (32 * p) src) len)
    ∙ ap (bytes_of_blocks end table) (take-append-drop (32 * p) src))

-- a write to the end of a slice
pub put_end : (a : ℕ) (xs ys : List ℕ) → a ≤ length xs → put_mid a (length xs - a) xs ys ≡ take a xs ++ ys
put_end a xs ys le =
    let l = length-drop a xs in
    ap (λ zs. take a xs ++ (ys ++ zs)) (drop_all (length xs - a) (drop a xs) (omega arith)) ∙ ap (λ zs. take a xs ++ zs) (append-nil ys)

pub drop_end : (a : ℕ) (xs ys : List ℕ) → a ≤ length xs → drop a (put_mid a (length xs - a) xs ys) ≡ ys
drop_end a xs ys le = ap (drop a) (put_end a xs ys le) ∙ drop_at (take a xs) ys a (length-take-le a xs le)

pub tail_is : (a : ℕ) (xs : List ℕ) → take (length xs - a) (drop a xs) ≡ drop a xs
tail_is a xs = let l = length-drop a xs in take_all (length xs - a) (drop a xs) (omega arith)

pub written_end : (end : End) (table src dst first : List ℕ) (k q : ℕ) → length src % 32 ≡ 0 → q ≡ length src / 32 → q ≤ k → k ≤ q
    → take (24 * k) dst ++ bytes_of_blocks end table (drop (32 * k) src) ≡ bytes_of_blocks end table src → drop (24 * k) dst ≡ drop (24 * k) first
    → dst ≡ bytes_of_blocks end table src ++ drop (24 * q) first
written_end end table src dst first k q whole is above below h rest =
    let e : k ≡ q = omega arith in
    let none : drop (32 * k) src ≡ [] = drop_all (32 * k) src (omega arith) in
    let bytes : bytes_of_blocks end table src ≡ take (24 * k) dst = sym h ∙ ap (λ xs. take (24 * k) dst ++ bytes_of_blocks end table xs) none
    ∙ ap (λ xs. take (24 * k) dst ++ xs) (bytes_of_blocks-none end table) ∙ append-nil (take (24 * k) dst) in
    rw (← e, bytes, ← rest) (sym (take-append-drop (24 * k) dst))

kept : (z : ℤ) → IsPlace z → to_z w16 (of_z w16 z) ≡ z
kept z h = let low = h.0 in let high = h.1 in omega (arith, ints)

pub places_kept : (table text : List ℕ) → length table ≡ 64 → map (to_z w16) (map (of_z w16) (map (place_of table) text)) ≡ map (place_of table) text
places_kept table [] len = refl
places_kept table (c ∷ text) len = (λ i. kept (place_of table c) (place_is_place table c len) i ∷ places_kept table text len i)
