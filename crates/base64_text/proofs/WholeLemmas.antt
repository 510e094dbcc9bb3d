-- A text by its front and its last block.
use Rattle.std.proofs.Common.{◌≡◌, ℕ, zero, suc, ◌+◌, ◌-◌, ◌*◌, ◌/◌, ◌%◌, ◌<◌, ◌≤◌, Bool, true, false, List, [], ◌∷◌, ◌++◌, length, take, drop, arith, refl}
use Rattle.std.proofs.Common.{if◌then◌else◌, ap, sym, ◌∙◌, append_assoc, length-append, length-drop, replicate, count_by, ◌==◌}
use Rattle.std.proofs.lemmas.Bool.{both_ways}
use Rattle.std.proofs.lemmas.Grind.{common_steps}
use Rattle.std.proofs.lemmas.List.{get_or-drop, get_or-take, take-append-drop, drop_at, take_at, length-take, drop-drop}
use Rattle.std.proofs.lemmas.List.Sums.{count_by-le-length}
use Rattle.std.proofs.lemmas.Slice.{take-put_mid}
use borrow.Rule.Slice.PartMut.{put_mid}
use Rattle.base64_alphabet.proofs.Forms.{form}
use Rattle.base64_alphabet.specs.Encoding.{bytes_of_blocks, characters, encoding_of, padding_len}
use Rattle.base64_alphabet.specs.Group.{End, High, Low}
use Rattle.base64_alphabet.specs.Table.{all_in}
use Rattle.base64_text.specs.Canonical.{IsBytes, IsNoEncoding, decoded_len, unpadded_len}
use Rattle.base64_alphabet.proofs.TableLemmas.{Facts}
use Rattle.base64_text.proofs.Texts.{characters_bytes_of_blocks, bytes_of_blocks_characters, characters-append}

-- at most two `=` stand among the last two characters
pub pads_le : (t : List ℕ) → (count_by (λ c. c == 61) (drop (length t - 2) t) ≤ 2) × (count_by (λ c. c == 61) (drop (length t - 2) t) ≤ length t)
pads_le t =
    let r = count_by-le-length (λ c. c == 61) (drop (length t - 2) t) in
    let l = length-drop (length t - 2) t in
    (omega arith, omega arith)

pub unpadded_split : (padded : Bool) (src : List ℕ) (at : ℕ) → at ≤ length src → (padded ≡ true → 2 ≤ length (drop at src))
    → unpadded_len padded src ≡ at + unpadded_len padded (drop at src)
unpadded_split false src at le two = let e = length-drop at src in omega arith
unpadded_split true src at le two =
    let t = two refl in
    let e = length-drop at src in
    let q : length src - 2 ≡ at + (length (drop at src) - 2) = omega arith in
    let pads = pads_le (drop at src) in
    rw (q, ← drop-drop (length (drop at src) - 2) at src) (omega arith)

pub encoding_of-append : (end : End) (table x y : List ℕ) (padded : Bool) → length x % 3 ≡ 0
    → encoding_of (form end table padded) (x ++ y) ≡ characters end table x ++ encoding_of (form end table padded) y
encoding_of-append end table x y padded whole =
    let e = length-append x y in
    let p : padding_len (length (x ++ y)) ≡ padding_len (length y) = omega arith in
    rw (p, characters-append end table x y whole) (append_assoc (characters end table x) (characters end table y)
    (if padded then replicate (padding_len (length y)) 61 else []))

pub length-bytes_of_blocks : (end : End) (table t : List ℕ) → length t % 4 ≡ 0 → length (bytes_of_blocks end table t) ≡ 3 * (length t / 4)
unfolding bytes_of_blocks
length-bytes_of_blocks end table [] whole = refl
length-bytes_of_blocks end table (p ∷ []) whole = absurd (omega arith)
length-bytes_of_blocks end table (p ∷ q ∷ []) whole = absurd (omega arith)
length-bytes_of_blocks end table (p ∷ q ∷ r ∷ []) whole = absurd (omega arith)
length-bytes_of_blocks High table (p ∷ q ∷ r ∷ s ∷ t) whole = let e = length-bytes_of_blocks High table t (omega arith) in omega arith
length-bytes_of_blocks Low table (p ∷ q ∷ r ∷ s ∷ t) whole = let e = length-bytes_of_blocks Low table t (omega arith) in omega arith

pub length-characters : (end : End) (table b : List ℕ) → length b % 3 ≡ 0 → length (characters end table b) ≡ 4 * (length b / 3)
unfolding characters
length-characters end table [] whole = refl
length-characters end table (x ∷ []) whole = absurd (omega arith)
length-characters end table (x ∷ y ∷ []) whole = absurd (omega arith)
length-characters High table (x ∷ y ∷ z ∷ b) whole = let e = length-characters High table b (omega arith) in omega arith
length-characters Low table (x ∷ y ∷ z ∷ b) whole = let e = length-characters Low table b (omega arith) in omega arith

length_most : (end : End) (table b : List ℕ) → length (characters end table b) ≤ 4 * ((length b + 2) / 3) - padding_len (length b)
unfolding characters
length_most end table [] = omega arith
length_most High table (x ∷ []) = omega arith
length_most Low table (x ∷ []) = omega arith
length_most High table (x ∷ y ∷ []) = omega arith
length_most Low table (x ∷ y ∷ []) = omega arith
length_most High table (x ∷ y ∷ z ∷ b) = let e = length_most High table b in omega arith
length_most Low table (x ∷ y ∷ z ∷ b) = let e = length_most Low table b in omega arith

pub len_pad : (n : ℕ) → length {A = ℕ} (replicate n 61) ≡ n
len_pad zero = refl
len_pad (suc n) = ap suc (len_pad n)

length_enc : (end : End) (table b : List ℕ) (padded : Bool) → length (encoding_of (form end table padded) b) ≤ 4 * ((length b + 2) / 3)
length_enc end table b true =
    let l : length (characters end table b) ≤ 4 * ((length b + 2) / 3) - padding_len (length b) = length_most end table b in
    let e = length-append (characters end table b) (replicate (padding_len (length b)) 61) in
    omega (arith, len_pad (padding_len (length b)))
length_enc end table b false =
    let l = length_most end table b in
    let e = length-append (characters end table b) [] in
    omega arith

-- a text that is an encoding, by its first 4 * q characters and the rest, which is not empty
pub record Halves (end : End) (table : List ℕ) (padded : Bool) (src b : List ℕ) (q : ℕ) : Type 0 where
  pub front : take (4 * q) src ≡ characters end table (take (3 * q) b)
  pub rest : drop (4 * q) src ≡ encoding_of (form end table padded) (drop (3 * q) b)
  pub whole : length (take (3 * q) b) % 3 ≡ 0
  pub front_bytes : IsBytes (take (3 * q) b)
  pub rest_bytes : IsBytes (drop (3 * q) b)

pub halves : (end : End) (table : List ℕ) (padded : Bool) (src b : List ℕ) (q : ℕ) → 4 * q < length src → IsBytes b → src
    ≡ encoding_of (form end table padded) b
    → Halves end table padded src b q
halves end table padded src b q more bytes is =
    let most = length_enc end table b padded in
    let same_length = ap length is in
    let long : 3 * q ≤ length b = omega arith in
    let len : length (take (3 * q) b) ≡ 3 * q = grind (arith, common_steps) in
    let whole : length (take (3 * q) b) % 3 ≡ 0 = omega arith in
    let four : length (characters end table (take (3 * q) b)) ≡ 4 * q = length-characters end table (take (3 * q) b) whole ∙ rw len (omega arith) in
    let split : src ≡ characters end table (take (3 * q) b) ++ encoding_of (form end table padded) (drop (3 * q) b)
    = is ∙ ap (encoding_of (form end table padded)) (sym (take-append-drop (3 * q) b))
    ∙ encoding_of-append end table (take (3 * q) b) (drop (3 * q) b) padded whole in
    record {
      front = ap (take (4 * q)) split ∙ take_at _ _ _ four;
      rest = ap (drop (4 * q)) split ∙ drop_at _ _ _ four;
      whole = whole;
      front_bytes = λ k d lt. (let lt' : k < length b = omega (arith, length-take {A = ℕ}) in rw (get_or-take (3 * q) b k d (omega arith)) (bytes k d lt'));
      rest_bytes = λ k d lt. rw (get_or-drop (3 * q) b k d) (bytes (3 * q + k) d (let e = length-drop (3 * q) b in omega arith));
    }

-- no bytes, since the last block has none
pub none_by_rest : (end : End) (table : List ℕ) (padded : Bool) (src : List ℕ) (q : ℕ) → 4 * q < length src
    → IsNoEncoding (form end table padded) (drop (4 * q) src) → IsNoEncoding (form end table padded) src
none_by_rest end table padded src q more none b bytes is =
    let h = halves end table padded src b q more bytes is in
    none (drop (3 * q) b) h.rest_bytes h.rest

-- no bytes, since a character of the front is not in the table
pub none_by_front : (end : End) (table : List ℕ) (padded : Bool) (src : List ℕ) (q : ℕ) → Facts table → 4 * q < length src
    → all_in table (take (4 * q) src) ≡ false → IsNoEncoding (form end table padded) src
none_by_front end table padded src q f more bad b bytes is =
    let h = halves end table padded src b q more bytes is in
    both_ways _ bad (ap (all_in table) h.front ∙ (bytes_of_blocks_characters end table (take (3 * q) b) f h.front_bytes h.whole).0)

-- the bytes of the front and of the last block are the bytes of the text
pub whole_text : (end : End) (table : List ℕ) (padded : Bool) (src last_bytes : List ℕ) (q : ℕ) → Facts table → 4 * q ≤ length src
    → all_in table (take (4 * q) src) ≡ true → drop (4 * q) src ≡ encoding_of (form end table padded) last_bytes
    → src ≡ encoding_of (form end table padded) (bytes_of_blocks end table (take (4 * q) src) ++ last_bytes)
whole_text end table padded src last_bytes q f le good rest =
    let front : List ℕ = take (4 * q) src in
    let len : length (take (4 * q) src) ≡ 4 * q = grind (arith, common_steps) in
    let four : length (take (4 * q) src) % 4 ≡ 0 = omega arith in
    let g = length-bytes_of_blocks end table (take (4 * q) src) four in
    let three : length (bytes_of_blocks end table (take (4 * q) src)) % 3 ≡ 0 = omega arith in
    sym (encoding_of-append end table (bytes_of_blocks end table (take (4 * q) src)) last_bytes padded three
    ∙ ap (λ xs. xs ++ encoding_of (form end table padded) last_bytes) (characters_bytes_of_blocks end table (take (4 * q) src) f four good)
    ∙ ap (λ ys. take (4 * q) src ++ ys) (sym rest) ∙ take-append-drop (4 * q) src)

-- what was written
pub written_text : (end : End) (table src dst tail new buf : List ℕ) (q k : ℕ) → 4 * q ≤ length src → 3 * q + k ≤ length dst
    → dst ≡ bytes_of_blocks end table (take (4 * q) src) ++ tail → new ≡ buf → length buf ≡ k
    → take (3 * q + k) (put_mid (3 * q) (3 * q + k - 3 * q) dst new) ≡ bytes_of_blocks end table (take (4 * q) src) ++ buf
written_text end table src dst tail new buf q k le decoded_len was is len =
    let l : length (take (4 * q) src) ≡ 4 * q = grind (arith, common_steps) in
    let four : length (take (4 * q) src) % 4 ≡ 0 = omega arith in
    let g : length (bytes_of_blocks end table (take (4 * q) src)) ≡ 3 * q = length-bytes_of_blocks end table (take (4 * q) src) four ∙ rw l (omega arith) in
    let same = ap length is in
    take-put_mid (3 * q) (3 * q + k - 3 * q) dst new (3 * q + k) (omega arith) (omega arith)
    ∙ rw (was, is) (ap (λ xs. xs ++ buf) (take_at _ _ _ g))

-- the bytes of the last block have decoded_len
pub has_room : (padded : Bool) (src : List ℕ) (q k space : ℕ) → q ≡ (length src - 1) / 4 → 0 < length src → (padded ≡ true → length src % 4 ≡ 0)
    → k ≡ 3 * unpadded_len padded (drop (4 * q) src) / 4 → decoded_len (unpadded_len padded src) ≤ space → k ≤ 3 → 3 * q + k ≤ space
has_room padded src q k space is some whole size le most =
    let l = length-drop (4 * q) src in
    let e = unpadded_split padded src (4 * q) (omega arith) (λ p. let w = whole p in omega arith) in
    omega arith

pub empty_text : (end : End) (table src : List ℕ) (padded : Bool) → length src ≡ 0 → src ≡ encoding_of (form end table padded) []
unfolding characters
empty_text end table [] true h = refl
empty_text end table [] false h = refl
empty_text end table (x ∷ src) padded h = absurd (omega arith)
