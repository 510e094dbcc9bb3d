-- An encoding by its whole groups and its rest.
use Rattle.std.proofs.Common.{◌≡◌, ℕ, zero, suc, ◌+◌, ◌-◌, ◌*◌, ◌/◌, ◌%◌, ◌<◌, ◌≤◌, Bool, true, false, List, [], ◌∷◌, ◌++◌, length, slice_index, take, drop}
use Rattle.std.proofs.Common.{All, IsAscii, if◌then◌else◌, arith, refl, ap, sym, ◌∙◌, length-append, replicate, Result, Ok, Err, IfOk}
use Rattle.std.proofs.lemmas.Grind.{common_steps}
use Rattle.std.proofs.lemmas.List.{take-append-drop, take_at}
use Rattle.std.proofs.lemmas.List.Elements.{All-append, All-cons, All-nil, All-replicate, All-tail, All-take}
use Rattle.std.proofs.lemmas.Slice.{take-put_mid}
use borrow.Rule.Slice.PartMut.{put_mid}
use Rattle.base64_alphabet.proofs.Forms.{form}
use Rattle.base64_alphabet.specs.Group.{End, High, Low, characters_of}
use Rattle.base64_alphabet.specs.Encoding.{characters, encoding_of, padding_len}
use Rattle.base64_alphabet.proofs.TableLemmas.{Facts, ascii_at}
use Rattle.base64_text.specs.Canonical.{IsBytes}
use Rattle.base64_text.specs.Counts.{encoded_len, encode_count}
use Rattle.base64_text.proofs.WholeLemmas.{encoding_of-append, length-characters, len_pad}

-- the characters of n bytes
length-all_characters : (end : End) (table b : List ℕ) → length (characters end table b) ≡ (4 * length b + 2) / 3
unfolding characters
length-all_characters end table [] = refl
length-all_characters High table (x ∷ []) = refl
length-all_characters Low table (x ∷ []) = refl
length-all_characters High table (x ∷ y ∷ []) = refl
length-all_characters Low table (x ∷ y ∷ []) = refl
length-all_characters High table (x ∷ y ∷ z ∷ b) = let e = length-all_characters High table b in omega arith
length-all_characters Low table (x ∷ y ∷ z ∷ b) = let e = length-all_characters Low table b in omega arith

pub length-encoding_of : (end : End) (table b : List ℕ) (padded : Bool) → length (encoding_of (form end table padded) b) ≡ encoded_len padded (length b)
length-encoding_of end table b true =
    let e = length-append (characters end table b) (replicate (padding_len (length b)) 61) in
    let l = length-all_characters end table b in
    omega (arith, len_pad (padding_len (length b)))
length-encoding_of end table b false =
    let e = length-append (characters end table b) [] in
    let l = length-all_characters end table b in
    omega arith

-- the length of an encoding that was made
pub length-of_text : {T E : Type 0} (text_of : T → List ℕ) (end : End) (table b : List ℕ) (padded : Bool) (r : Result T E)
    → IfOk r (λ text. text_of text ≡ encoding_of (form end table padded) b) → IfOk r (λ text. length (text_of text) ≡ encoded_len padded (length b))
length-of_text text_of end table b padded (Ok text) is = ap length is ∙ length-encoding_of end table b padded
length-of_text text_of end table b padded (Err e) is = is

pub empty_encoding : (end : End) (table : List ℕ) (padded : Bool) → encoding_of (form end table padded) [] ≡ []
unfolding characters
empty_encoding end table true = refl
empty_encoding end table false = refl

pub none_text : (end : End) (table b : List ℕ) (padded : Bool) → length b ≡ 0 → [] ≡ encoding_of (form end table padded) b
none_text end table [] padded h = sym (empty_encoding end table padded)
none_text end table (x ∷ b) padded h = absurd (omega arith)

-- whole groups and a rest
pub len_split : (padded : Bool) (n : ℕ) → encoded_len padded n ≡ 4 * (n / 3) + encoded_len padded (n - 3 * (n / 3))
len_split true n = omega arith
len_split false n = omega arith

pub few_len : (padded : Bool) (n : ℕ) → n ≤ 3 → encoded_len padded n ≤ 4
few_len true n le = omega arith
few_len false n le = omega arith

pub count_split : (padded : Bool) (n : ℕ) → encode_count padded n ≡ 4 * (n / 3) + encode_count padded (n - 3 * (n / 3))
count_split padded n =
    let none : (n - 3 * (n / 3)) / 3 ≡ 0 = omega arith in
    let rest : (n - 3 * (n / 3)) % 3 ≡ n % 3 = omega arith in
    rw (none, rest) (omega arith)

pub encoded_text : (end : End) (table src dst tail new rest : List ℕ) (padded : Bool) (q k : ℕ) → q ≡ length src / 3 → 4 * q + k ≤ length dst
    → dst ≡ characters end table (take (3 * q) src) ++ tail → new ≡ rest → length rest ≡ k → rest ≡ encoding_of (form end table padded) (drop (3 * q) src)
    → take (4 * q + k) (put_mid (4 * q) (4 * q + k - 4 * q) dst new) ≡ encoding_of (form end table padded) src
encoded_text end table src dst tail new rest padded q k at room was is len text =
    let l : length (take (3 * q) src) ≡ 3 * q = grind (arith, common_steps) in
    let three : length (take (3 * q) src) % 3 ≡ 0 = omega arith in
    let g : length (characters end table (take (3 * q) src)) ≡ 4 * q = length-characters end table (take (3 * q) src) three ∙ rw l (omega arith) in
    let same = ap length is in
    take-put_mid (4 * q) (4 * q + k - 4 * q) dst new (4 * q + k) (omega arith) (omega arith)
    ∙ rw (was, is) (ap (λ xs. xs ++ rest) (take_at _ _ _ g) ∙ ap (λ ys. characters end table (take (3 * q) src) ++ ys) text
    ∙ sym (encoding_of-append end table (take (3 * q) src) (drop (3 * q) src) padded three)
    ∙ ap (encoding_of (form end table padded)) (take-append-drop (3 * q) src))

pub encoding_some : (end : End) (table : List ℕ) (padded : Bool) (b : List ℕ) → 0 < length b → 0 < length (encoding_of (form end table padded) b)
encoding_some end table true b some = let e = length-encoding_of end table b true in omega arith
encoding_some end table false b some = let e = length-encoding_of end table b false in omega arith

-- only no bytes have an empty encoding
some_characters : (end : End) (table : List ℕ) (x : ℕ) (b : List ℕ) → 0 < length (characters end table (x ∷ b))
unfolding characters
some_characters High table x [] = omega arith
some_characters Low table x [] = omega arith
some_characters High table x (y ∷ []) = omega arith
some_characters Low table x (y ∷ []) = omega arith
some_characters High table x (y ∷ z ∷ b) = omega arith
some_characters Low table x (y ∷ z ∷ b) = omega arith

pub empty_value : (end : End) (table : List ℕ) (padded : Bool) (b : List ℕ) → encoding_of (form end table padded) b ≡ [] → b ≡ []
empty_value end table padded [] h = refl
empty_value end table padded (x ∷ b) h = absurd (let s = some_characters end table x b in
    let e = length-append (characters end table (x ∷ b)) (if padded then replicate (padding_len (length (x ∷ b))) 61 else []) in
    let l = ap length h in omega arith)

-- what holds of each character of the table, and of `=`, holds of each character of an encoding
all_of_four : (P : ℕ → Type 0) (p q r s : ℕ) → P p → P q → P r → P s → All P (p ∷ q ∷ r ∷ s ∷ [])
all_of_four P p q r s a b c d = All-cons P p (q ∷ r ∷ s ∷ []) a (All-cons P q (r ∷ s ∷ []) b (All-cons P r (s ∷ []) c (All-cons P s [] d (All-nil P))))

four_all : (P : ℕ → Type 0) (end : End) (table : List ℕ) (a b c : ℕ) → ((k : ℕ) → k < 64 → P (slice_index table k)) → a < 256 → b < 256 → c < 256
    → All P (characters_of end table a b c)
four_all P High table a b c h x y z =
    let n : ℕ = a * 65536 + b * 256 + c in
    all_of_four P (slice_index table (n / 262144)) (slice_index table (n / 4096 % 64)) (slice_index table (n / 64 % 64)) (slice_index table (n % 64))
    (h (n / 262144) (omega arith)) (h (n / 4096 % 64) (omega arith)) (h (n / 64 % 64) (omega arith)) (h (n % 64) (omega arith))
four_all P Low table a b c h x y z =
    let n : ℕ = c * 65536 + b * 256 + a in
    all_of_four P (slice_index table (n % 64)) (slice_index table (n / 64 % 64)) (slice_index table (n / 4096 % 64)) (slice_index table (n / 262144))
    (h (n % 64) (omega arith)) (h (n / 64 % 64) (omega arith)) (h (n / 4096 % 64) (omega arith)) (h (n / 262144) (omega arith))

characters_all : (P : ℕ → Type 0) (end : End) (table b : List ℕ) → ((k : ℕ) → k < 64 → P (slice_index table k)) → IsBytes b → All P (characters end table b)
unfolding characters
characters_all P end table [] h bytes = All-nil P
characters_all P end table (x ∷ []) h bytes = All-take P 2 (characters_of end table x 0 0)
    (four_all P end table x 0 0 h (bytes 0 0 (omega arith)) (omega arith) (omega arith))
characters_all P end table (x ∷ y ∷ []) h bytes = All-take P 3 (characters_of end table x y 0)
    (four_all P end table x y 0 h (bytes 0 0 (omega arith)) (bytes 1 0 (omega arith)) (omega arith))
characters_all P end table (x ∷ y ∷ z ∷ b) h bytes = All-append P (characters_of end table x y z) (characters end table b)
    (four_all P end table x y z h (bytes 0 0 (omega arith)) (bytes 1 0 (omega arith)) (bytes 2 0 (omega arith)))
    (characters_all P end table b h (λ k d lt. bytes (suc (suc (suc k))) d (omega arith)))

pub encoding_all : (P : ℕ → Type 0) (end : End) (table : List ℕ) (padded : Bool) (b : List ℕ) → ((k : ℕ) → k < 64 → P (slice_index table k)) → P 61
    → IsBytes b → All P (encoding_of (form end table padded) b)
encoding_all P end table true b h pad bytes = All-append P (characters end table b) (replicate (padding_len (length b)) 61)
    (characters_all P end table b h bytes) (All-replicate P (padding_len (length b)) 61 pad)
encoding_all P end table false b h pad bytes = All-append P (characters end table b) [] (characters_all P end table b h bytes) (All-nil P)

pub ascii_from_all : (xs : List ℕ) → All (λ c. c < 128) xs → IsAscii xs
ascii_from_all [] h i = omega arith
ascii_from_all (x ∷ xs) h zero = h 0 0 (omega arith)
ascii_from_all (x ∷ xs) h (suc i) = ascii_from_all xs (All-tail (λ c. c < 128) x xs h) i

pub encoding_all_ascii : (end : End) (table : List ℕ) (padded : Bool) (b : List ℕ) → Facts table → IsBytes b
    → All (λ c. c < 128) (encoding_of (form end table padded) b)
encoding_all_ascii end table padded b f bytes = encoding_all (λ c. c < 128) end table padded b (λ k lt. ascii_at table f.ascii k) (omega arith) bytes

pub encoding_ascii : (end : End) (table : List ℕ) (padded : Bool) (b : List ℕ) → Facts table → IsBytes b → IsAscii (encoding_of (form end table padded) b)
encoding_ascii end table padded b f bytes = ascii_from_all (encoding_of (form end table padded) b) (encoding_all_ascii end table padded b f bytes)
