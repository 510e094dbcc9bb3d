-- The last block of a text.
use Rattle.std.proofs.Common.{◌≡◌, ℕ, ◌+◌, ◌*◌, ◌/◌, ◌%◌, ◌<◌, ◌≤◌, Bool, true, false, ◌==◌, List, [], ◌∷◌, ◌++◌, length, slice_index, take, append-nil, set}
use Rattle.std.proofs.Common.{arith, refl, if◌then◌else◌, ap, inl, inr, length-append, replicate, eqb}
use Rattle.std.proofs.lemmas.Bool.{cases_Bool, eqb-true, both_ways}
use Rattle.std.proofs.lemmas.List.{take-append-le}
use Rattle.std.proofs.lemmas.Grind.{common_steps}
use lib.Pointwise.{pointwise}
use Rattle.base64_alphabet.proofs.Forms.{form}
use Rattle.base64_alphabet.specs.Encoding.{bytes_of_blocks, characters, encoding_of, padding_len}
use Rattle.base64_alphabet.specs.Group.{End, High, Low, bytes_of, characters_of}
use Rattle.base64_alphabet.specs.Table.{all_in, digit_of, is_in}
use Rattle.base64_text.specs.Canonical.{IsBytes, loose_bytes, unpadded_len, is_clean}
use Rattle.base64_text.specs.LastBlock.{filled}
use Rattle.base64_alphabet.proofs.TableLemmas.{Facts, digit_below}
use Rattle.base64_text.proofs.Algebra.{same, is_in_at, digit_at, bytes_back, number_of_its_digits}

-- the text of one byte, as it is written
pub one_text : (end : End) (table bs dst : List ℕ) → length bs ≡ 1 → dst ≡ characters_of end table (slice_index bs 0) 0 0 ++ []
    → (take 4 (set (set dst 2 61) 3 61) ≡ encoding_of (form end table true) bs) × (take 2 (set (set dst 2 61) 3 61) ≡ encoding_of (form end table false) bs)
unfolding characters
one_text High table (a ∷ []) dst h is = rw is (refl, refl)
one_text Low table (a ∷ []) dst h is = rw is (refl, refl)
one_text end table [] dst h is = absurd (omega arith)
one_text end table (a ∷ b ∷ bs) dst h is = absurd (omega arith)

pub two_text : (end : End) (table bs dst : List ℕ) → length bs ≡ 2 → dst ≡ characters_of end table (slice_index bs 0) (slice_index bs 1) 0 ++ []
    → (take 4 (set dst 3 61) ≡ encoding_of (form end table true) bs) × (take 3 (set dst 3 61) ≡ encoding_of (form end table false) bs)
unfolding characters
two_text High table (a ∷ b ∷ []) dst h is = rw is (refl, refl)
two_text Low table (a ∷ b ∷ []) dst h is = rw is (refl, refl)
two_text end table [] dst h is = absurd (omega arith)
two_text end table (a ∷ []) dst h is = absurd (omega arith)
two_text end table (a ∷ b ∷ c ∷ bs) dst h is = absurd (omega arith)

pub three_text : (end : End) (table bs dst : List ℕ) (padded : Bool) → length bs ≡ 3
    → dst ≡ characters_of end table (slice_index bs 0) (slice_index bs 1) (slice_index bs 2) ++ []
    → take 4 dst ≡ encoding_of (form end table padded) bs
unfolding characters
three_text High table (a ∷ b ∷ c ∷ []) dst true h is = rw is refl
three_text Low table (a ∷ b ∷ c ∷ []) dst true h is = rw is refl
three_text High table (a ∷ b ∷ c ∷ []) dst false h is = rw is refl
three_text Low table (a ∷ b ∷ c ∷ []) dst false h is = rw is refl
three_text end table [] dst padded h is = absurd (omega arith)
three_text end table (a ∷ []) dst padded h is = absurd (omega arith)
three_text end table (a ∷ b ∷ []) dst padded h is = absurd (omega arith)
three_text end table (a ∷ b ∷ c ∷ d ∷ bs) dst padded h is = absurd (omega arith)

same_text : (xs : List ℕ) → pointwise eqb xs xs ≡ true
same_text [] = refl
same_text (x ∷ xs) = rw (same x) (same_text xs)

-- ---- decoding

ne_equals : (table : List ℕ) (k : ℕ) → Facts table → k < 64 → (slice_index table k == 61) ≡ false
ne_equals table k f lt = elim (cases_Bool (slice_index table k == 61)) [
  | inl e ↦ (let len = f.len in
      let i : is_in table (slice_index table k) ≡ true = is_in_at table k (omega arith) in
      let y : slice_index table k ≡ 61 = eqb-true _ _ e in
      let bad : is_in table 61 ≡ true = rw y at i in
      absurd (both_ways _ f.no_equals bad))
  | inr e ↦ e
]

-- what a block tells that is the text of one to three bytes
pub record IsLast (end : End) (table : List ℕ) (padded : Bool) (last b : List ℕ) : Type 0 where
  pub two : 2 ≤ length last
  pub some : 1 ≤ length b
  pub few : length b ≤ 3
  pub len : unpadded_len padded last ≡ length b + 1
  pub in_table : all_in table (filled (length b + 1) last) ≡ true
  pub clean : is_clean table padded last ≡ true
  pub bytes : take (length b) (bytes_of end table (slice_index (filled (length b + 1) last) 0) (slice_index (filled (length b + 1) last) 1)
      (slice_index (filled (length b + 1) last) 2) (slice_index (filled (length b + 1) last) 3)) ≡ b

-- four characters that are in the table, by their digits
in_all : (table : List ℕ) (a b c d : ℕ) → is_in table a ≡ true → is_in table b ≡ true → is_in table c ≡ true → is_in table d ≡ true
    → all_in table (a ∷ b ∷ c ∷ d ∷ []) ≡ true
in_all table a b c d p q r s = rw (p, q, r, s) refl

one_last : (end : End) (table : List ℕ) (padded : Bool) (x : ℕ) → Facts table → x < 256
    → IsLast end table padded (encoding_of (form end table padded) (x ∷ [])) (x ∷ [])
unfolding characters
one_last High table padded x f lt =
    let n : ℕ = x * 65536 + 0 * 256 + 0 in
    let len = f.len in
    let lp : n / 262144 < 64 = omega arith in
    let lq : n / 4096 % 64 < 64 = omega arith in
    let la : digit_of table 65 < 64 = (let l = digit_below table 65 f.has_a in omega arith) in
    let ip = is_in_at table (n / 262144) (omega arith) in
    let iq = is_in_at table (n / 4096 % 64) (omega arith) in
    let dp = digit_at table (n / 262144) f.distinct (omega arith) in
    let dq = digit_at table (n / 4096 % 64) f.distinct (omega arith) in
    let byte : (n / 262144 * 262144 + n / 4096 % 64 * 4096 + digit_of table 65 * 64 + digit_of table 65) / 65536 ≡ x = omega arith in
    elim padded as (λ p. IsLast High table p (encoding_of (form High table p) (x ∷ [])) (x ∷ [])) [
      | true ↦ record {
        two = omega arith;
        some = omega arith;
        few = omega arith;
        len = refl;
        in_table = in_all table _ _ _ _ ip iq f.has_a f.has_a;
        clean =
            rw (ip, iq) refl;
        bytes = rw (dp, dq, byte) refl;
      }
      | false ↦ record {
        two = omega arith;
        some = omega arith;
        few = omega arith;
        len = refl;
        in_table = in_all table _ _ _ _ ip iq f.has_a f.has_a;
        clean = rw (ip, iq) refl;
        bytes = rw (dp, dq, byte) refl;
      }
    ]
one_last Low table padded x f lt =
    let n : ℕ = 0 * 65536 + 0 * 256 + x in
    let len = f.len in
    let lp : n % 64 < 64 = omega arith in
    let lq : n / 64 % 64 < 64 = omega arith in
    let la : digit_of table 65 < 64 = (let l = digit_below table 65 f.has_a in omega arith) in
    let ip = is_in_at table (n % 64) (omega arith) in
    let iq = is_in_at table (n / 64 % 64) (omega arith) in
    let dp = digit_at table (n % 64) f.distinct (omega arith) in
    let dq = digit_at table (n / 64 % 64) f.distinct (omega arith) in
    let byte : (digit_of table 65 * 262144 + digit_of table 65 * 4096 + n / 64 % 64 * 64 + n % 64) % 256 ≡ x = omega arith in
    elim padded as (λ p. IsLast Low table p (encoding_of (form Low table p) (x ∷ [])) (x ∷ [])) [
      | true ↦ record {
        two = omega arith;
        some = omega arith;
        few = omega arith;
        len = refl;
        in_table = in_all table _ _ _ _ ip iq f.has_a f.has_a;
        clean =
            rw (ip, iq) refl;
        bytes = rw (dp, dq, byte) refl;
      }
      | false ↦ record {
        two = omega arith;
        some = omega arith;
        few = omega arith;
        len = refl;
        in_table = in_all table _ _ _ _ ip iq f.has_a f.has_a;
        clean = rw (ip, iq) refl;
        bytes = rw (dp, dq, byte) refl;
      }
    ]

two_last : (end : End) (table : List ℕ) (padded : Bool) (x y : ℕ) → Facts table → x < 256 → y < 256
    → IsLast end table padded (encoding_of (form end table padded) (x ∷ y ∷ [])) (x ∷ y ∷ [])
unfolding characters
two_last High table padded x y f lt lu =
    let n : ℕ = x * 65536 + y * 256 + 0 in
    let len = f.len in
    let lp : n / 262144 < 64 = omega arith in
    let lq : n / 4096 % 64 < 64 = omega arith in
    let lr : n / 64 % 64 < 64 = omega arith in
    let la : digit_of table 65 < 64 = (let l = digit_below table 65 f.has_a in omega arith) in
    let ip = is_in_at table (n / 262144) (omega arith) in
    let iq = is_in_at table (n / 4096 % 64) (omega arith) in
    let ir = is_in_at table (n / 64 % 64) (omega arith) in
    let ne = ne_equals table (n / 64 % 64) f lr in
    let dp = digit_at table (n / 262144) f.distinct (omega arith) in
    let dq = digit_at table (n / 4096 % 64) f.distinct (omega arith) in
    let dr = digit_at table (n / 64 % 64) f.distinct (omega arith) in
    let byte : (n / 262144 * 262144 + n / 4096 % 64 * 4096 + n / 64 % 64 * 64 + digit_of table 65) / 65536 ≡ x = omega arith in
    let more : (n / 262144 * 262144 + n / 4096 % 64 * 4096 + n / 64 % 64 * 64 + digit_of table 65) / 256 % 256 ≡ y = omega arith in
    elim padded as (λ p. IsLast High table p (encoding_of (form High table p) (x ∷ y ∷ [])) (x ∷ y ∷ [])) [
      | true ↦ record {
        two = omega arith;
        some = omega arith;
        few = omega arith;
        len = rw ne refl;
        in_table = in_all table _ _ _ _ ip iq ir f.has_a;
        clean = rw (ne, ip, iq, ir) refl;
        bytes = rw (dp, dq, dr, byte, more) refl;
      }
      | false ↦ record {
        two = omega arith;
        some = omega arith;
        few = omega arith;
        len = refl;
        in_table = in_all table _ _ _ _ ip iq ir f.has_a;
        clean =
            rw (ip, iq, ir) refl;
        bytes = rw (dp, dq, dr, byte, more) refl;
      }
    ]
two_last Low table padded x y f lt lu =
    let n : ℕ = 0 * 65536 + y * 256 + x in
    let len = f.len in
    let lp : n % 64 < 64 = omega arith in
    let lq : n / 64 % 64 < 64 = omega arith in
    let lr : n / 4096 % 64 < 64 = omega arith in
    let la : digit_of table 65 < 64 = (let l = digit_below table 65 f.has_a in omega arith) in
    let ip = is_in_at table (n % 64) (omega arith) in
    let iq = is_in_at table (n / 64 % 64) (omega arith) in
    let ir = is_in_at table (n / 4096 % 64) (omega arith) in
    let ne = ne_equals table (n / 4096 % 64) f lr in
    let dp = digit_at table (n % 64) f.distinct (omega arith) in
    let dq = digit_at table (n / 64 % 64) f.distinct (omega arith) in
    let dr = digit_at table (n / 4096 % 64) f.distinct (omega arith) in
    let byte : (digit_of table 65 * 262144 + n / 4096 % 64 * 4096 + n / 64 % 64 * 64 + n % 64) % 256 ≡ x = omega arith in
    let more : (digit_of table 65 * 262144 + n / 4096 % 64 * 4096 + n / 64 % 64 * 64 + n % 64) / 256 % 256 ≡ y = omega arith in
    elim padded as (λ p. IsLast Low table p (encoding_of (form Low table p) (x ∷ y ∷ [])) (x ∷ y ∷ [])) [
      | true ↦ record {
        two = omega arith;
        some = omega arith;
        few = omega arith;
        len = rw ne refl;
        in_table = in_all table _ _ _ _ ip iq ir f.has_a;
        clean = rw (ne, ip, iq, ir) refl;
        bytes = rw (dp, dq, dr, byte, more) refl;
      }
      | false ↦ record {
        two = omega arith;
        some = omega arith;
        few = omega arith;
        len = refl;
        in_table = in_all table _ _ _ _ ip iq ir f.has_a;
        clean =
            rw (ip, iq, ir) refl;
        bytes = rw (dp, dq, dr, byte, more) refl;
      }
    ]

three_last : (end : End) (table : List ℕ) (padded : Bool) (x y z : ℕ) → Facts table → x < 256 → y < 256 → z < 256
    → IsLast end table padded (encoding_of (form end table padded) (x ∷ y ∷ z ∷ [])) (x ∷ y ∷ z ∷ [])
unfolding characters
three_last High table padded x y z f lt lu lv =
    let n : ℕ = x * 65536 + y * 256 + z in
    let len = f.len in
    let lp : n / 262144 < 64 = omega arith in
    let lq : n / 4096 % 64 < 64 = omega arith in
    let lr : n / 64 % 64 < 64 = omega arith in
    let ls : n % 64 < 64 = omega arith in
    let ip = is_in_at table (n / 262144) (omega arith) in
    let iq = is_in_at table (n / 4096 % 64) (omega arith) in
    let ir = is_in_at table (n / 64 % 64) (omega arith) in
    let is = is_in_at table (n % 64) (omega arith) in
    let ne = ne_equals table (n / 64 % 64) f lr in
    let nf = ne_equals table (n % 64) f ls in
    let dp = digit_at table (n / 262144) f.distinct (omega arith) in
    let dq = digit_at table (n / 4096 % 64) f.distinct (omega arith) in
    let dr = digit_at table (n / 64 % 64) f.distinct (omega arith) in
    let ds = digit_at table (n % 64) f.distinct (omega arith) in
    let back = ap (take 3) (bytes_back High x y z lt lu lv) in
    elim padded as (λ p. IsLast High table p (encoding_of (form High table p) (x ∷ y ∷ z ∷ [])) (x ∷ y ∷ z ∷ [])) [
      | true ↦ record {
        two = omega arith;
        some = omega arith;
        few = omega arith;
        len = rw (ne, nf) refl;
        in_table = in_all table _ _ _ _ ip iq ir is;
        clean = rw (ne, nf, ip, iq, ir, is) refl;
        bytes = rw (dp, dq, dr, ds, number_of_its_digits n) back;
      }
      | false ↦ record {
        two = omega arith;
        some = omega arith;
        few = omega arith;
        len = refl;
        in_table = in_all table _ _ _ _ ip iq ir is;
        clean =
            rw (ip, iq, ir, is) refl;
        bytes = rw (dp, dq, dr, ds, number_of_its_digits n) back;
      }
    ]
three_last Low table padded x y z f lt lu lv =
    let n : ℕ = z * 65536 + y * 256 + x in
    let len = f.len in
    let lp : n % 64 < 64 = omega arith in
    let lq : n / 64 % 64 < 64 = omega arith in
    let lr : n / 4096 % 64 < 64 = omega arith in
    let ls : n / 262144 < 64 = omega arith in
    let ip = is_in_at table (n % 64) (omega arith) in
    let iq = is_in_at table (n / 64 % 64) (omega arith) in
    let ir = is_in_at table (n / 4096 % 64) (omega arith) in
    let is = is_in_at table (n / 262144) (omega arith) in
    let ne = ne_equals table (n / 4096 % 64) f lr in
    let nf = ne_equals table (n / 262144) f ls in
    let dp = digit_at table (n % 64) f.distinct (omega arith) in
    let dq = digit_at table (n / 64 % 64) f.distinct (omega arith) in
    let dr = digit_at table (n / 4096 % 64) f.distinct (omega arith) in
    let ds = digit_at table (n / 262144) f.distinct (omega arith) in
    let back = ap (take 3) (bytes_back Low x y z lt lu lv) in
    elim padded as (λ p. IsLast Low table p (encoding_of (form Low table p) (x ∷ y ∷ z ∷ [])) (x ∷ y ∷ z ∷ [])) [
      | true ↦ record {
        two = omega arith;
        some = omega arith;
        few = omega arith;
        len = rw (ne, nf) refl;
        in_table = in_all table _ _ _ _ ip iq ir is;
        clean = rw (ne, nf, ip, iq, ir, is) refl;
        bytes = rw (dp, dq, dr, ds, number_of_its_digits n) back;
      }
      | false ↦ record {
        two = omega arith;
        some = omega arith;
        few = omega arith;
        len = refl;
        in_table = in_all table _ _ _ _ ip iq ir is;
        clean =
            rw (ip, iq, ir, is) refl;
        bytes = rw (dp, dq, dr, ds, number_of_its_digits n) back;
      }
    ]

length_some : (end : End) (table : List ℕ) (x : ℕ) (b : List ℕ) → 2 ≤ length (characters end table (x ∷ b))
unfolding characters
length_some High table x [] = omega arith
length_some Low table x [] = omega arith
length_some High table x (y ∷ []) = omega arith
length_some Low table x (y ∷ []) = omega arith
length_some High table x (y ∷ z ∷ b) = omega arith
length_some Low table x (y ∷ z ∷ b) = omega arith

length_long : (end : End) (table : List ℕ) (padded : Bool) (x y z w : ℕ) (b : List ℕ) → 5 ≤ length (encoding_of (form end table padded) (x ∷ y ∷ z ∷ w ∷ b))
unfolding characters
length_long High table padded x y z w b = let l = length_some High table w b in let e =
    length-append (characters High table (x ∷ y ∷ z ∷ w ∷ b)) (if padded then replicate (padding_len (length (x ∷ y ∷ z ∷ w ∷ b))) 61 else []) in omega arith
length_long Low table padded x y z w b = let l = length_some Low table w b in let e =
    length-append (characters Low table (x ∷ y ∷ z ∷ w ∷ b)) (if padded then replicate (padding_len (length (x ∷ y ∷ z ∷ w ∷ b))) 61 else []) in omega arith

none_length : (end : End) (table : List ℕ) (padded : Bool) → length (encoding_of (form end table padded) []) ≡ 0
unfolding characters
none_length end table true = refl
none_length end table false = refl

pub is_last : (end : End) (table : List ℕ) (padded : Bool) (last b : List ℕ) → Facts table → IsBytes b → 1 ≤ length last → length last ≤ 4
    → last ≡ encoding_of (form end table padded) b → IsLast end table padded last b
is_last end table padded last [] f bytes some few is = absurd (let e = none_length end table padded in let l = ap length is in omega arith)
is_last end table padded last (x ∷ []) f bytes some few is = rw is (one_last end table padded x f (bytes 0 0 (omega arith)))
is_last end table padded last (x ∷ y ∷ []) f bytes some few is = rw is (two_last end table padded x y f (bytes 0 0 (omega arith)) (bytes 1 0 (omega arith)))
is_last end table padded last (x ∷ y ∷ z ∷ []) f bytes some few is =
    rw is (three_last end table padded x y z f (bytes 0 0 (omega arith)) (bytes 1 0 (omega arith)) (bytes 2 0 (omega arith)))
is_last end table padded last (x ∷ y ∷ z ∷ w ∷ b) f bytes some few is =
    absurd (let e = length_long end table padded x y z w b in let l = ap length is in omega arith)

pub front_is : (n : ℕ) (xs ys b : List ℕ) → take n xs ≡ b → n ≡ length b → take n (xs ++ ys) ≡ b
front_is n xs ys b h len =
    let le : n ≤ length xs = (let e = ap length h in grind (arith, common_steps)) in
    rw take-append-le h

pub same_texts : (xs ys : List ℕ) → xs ≡ ys → pointwise eqb xs ys ≡ true
same_texts xs ys h = rw h (same_text ys)

-- a last block's loose bytes
pub last_loose : (end : End) (table : List ℕ) (padded : Bool) (last b : List ℕ) → IsLast end table padded last b → loose_bytes (form end table padded) last ≡ b
unfolding bytes_of_blocks
last_loose end table padded last [] l = absurd (let s = l.some in omega arith)
last_loose end table padded [] (x ∷ b) l = absurd (let s = l.two in omega arith)
last_loose end table padded (p ∷ []) (x ∷ b) l = absurd (let s = l.two in omega arith)
last_loose end table padded (p ∷ q ∷ t) (x ∷ []) l = rw (l.len, append-nil (bytes_of end table p q 65 65)) l.bytes
last_loose end table padded (p ∷ q ∷ []) (x ∷ y ∷ b) l = absurd (let s = l.len in grind arith)
last_loose end table padded (p ∷ q ∷ r ∷ t) (x ∷ y ∷ []) l = rw (l.len, append-nil (bytes_of end table p q r 65)) l.bytes
last_loose end table padded (p ∷ q ∷ r ∷ []) (x ∷ y ∷ z ∷ b) l = absurd (let s = l.len in grind arith)
last_loose end table padded (p ∷ q ∷ r ∷ s ∷ t) (x ∷ y ∷ z ∷ []) l = rw (l.len, append-nil (bytes_of end table p q r s)) l.bytes
last_loose end table padded last (x ∷ y ∷ z ∷ w ∷ b) l = absurd (let s = l.few in omega arith)
