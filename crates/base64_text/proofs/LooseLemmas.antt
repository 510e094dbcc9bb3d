-- Clean texts and the bytes that they stand for.
use Rattle.std.proofs.Common.{◌≡◌, ℕ, zero, suc, ◌+◌, ◌-◌, ◌*◌, ◌/◌, ◌%◌, ◌<◌, ◌≤◌, Bool, true, false, not, ◌&&◌, ◌||◌, ◌==◌, List, [], ◌∷◌, ◌++◌, length}
use Rattle.std.proofs.Common.{slice_index, take, drop, arith, refl, ap, sym, ◌∙◌, ℤ, pos, nat_eq, of_z, append_assoc, if◌then◌else◌, replicate, inl, inr, ◌↔◌}
use Rattle.std.proofs.Common.{length-append, length-drop}
use Rattle.std.proofs.lemmas.Bool.{cases_lt, cases_eq, and_parts}
use Rattle.std.proofs.lemmas.List.{take-append-drop, length-take-le, take-take, drop-take, take_at, drop_at, drop-drop, length-replicate}
use mir.Syntax.{w16}
use borrow.Rule.Slice.PartMut.{put_mid}
use Rattle.base64_alphabet.proofs.Forms.{form}
use Rattle.base64_alphabet.specs.Table.{all_in}
use Rattle.base64_alphabet.specs.Group.{End, bytes_of}
use Rattle.base64_alphabet.specs.Encoding.{encoding_of, bytes_of_blocks}
use Rattle.base64_alphabet.proofs.TableLemmas.{Facts}
use Rattle.base64_alphabet.proofs.BlocksLemmas.{all_in-append}
use Rattle.base64_text.specs.Canonical.{IsBytes, IsNoEncoding, HasWholeBlocks, decoded_len, unpadded_len, is_clean, all_pads, loose_bytes}
use Rattle.base64_text.proofs.Texts.{bytes_of_blocks_characters}
use Rattle.base64_text.proofs.LastLemmas.{is_last, last_loose}
use Rattle.base64_text.proofs.WholeLemmas.{halves, unpadded_split, length-bytes_of_blocks, whole_text, pads_le, written_text}
use Rattle.base64_text.proofs.EncodingLemmas.{empty_value}

-- lists
pub take_plus : (a k : ℕ) (xs : List ℕ) → take (a + k) xs ≡ take a xs ++ take k (drop a xs)
take_plus a k xs = sym (take-append-drop a (take (a + k) xs)) ∙ ap (λ ys. ys ++ drop a (take (a + k) xs)) (take-take a (a + k) xs (omega arith))
    ∙ ap (λ ys. take a xs ++ ys) (drop-take a k xs)

pub take_over : (n k : ℕ) (xs ys : List ℕ) → length xs ≡ n → take (n + k) (xs ++ ys) ≡ xs ++ take k ys
take_over n k xs ys is = take_plus n k (xs ++ ys) ∙ ap (λ zs. zs ++ take k (drop n (xs ++ ys))) (take_at xs ys n is)
    ∙ ap (λ zs. xs ++ take k zs) (drop_at xs ys n is)

pub bytes_of_blocks-append : (end : End) (table x y : List ℕ) → length x % 4 ≡ 0
    → bytes_of_blocks end table (x ++ y) ≡ bytes_of_blocks end table x ++ bytes_of_blocks end table y
unfolding bytes_of_blocks
bytes_of_blocks-append end table [] y whole = refl
bytes_of_blocks-append end table (p ∷ []) y whole = absurd (omega arith)
bytes_of_blocks-append end table (p ∷ q ∷ []) y whole = absurd (omega arith)
bytes_of_blocks-append end table (p ∷ q ∷ r ∷ []) y whole = absurd (omega arith)
bytes_of_blocks-append end table (p ∷ q ∷ r ∷ s ∷ x) y whole =
    ap (λ zs. bytes_of end table p q r s ++ zs) (bytes_of_blocks-append end table x y (omega arith))
    ∙ sym (append_assoc (bytes_of end table p q r s) (bytes_of_blocks end table x) (bytes_of_blocks end table y))

-- blocks behind others
pub take_blocks_plus : (j k : ℕ) (chars : List ℕ) → take (4 * (j + k)) chars ≡ take (4 * j) chars ++ take (4 * k) (drop (4 * j) chars)
take_blocks_plus j k chars = let e : 4 * (j + k) ≡ 4 * j + 4 * k = omega arith in rw e (take_plus (4 * j) (4 * k) chars)

pub blocks_plus : (end : End) (table : List ℕ) (j k : ℕ) (chars : List ℕ) → 4 * j ≤ length chars
    → bytes_of_blocks end table (take (4 * (j + k)) chars) ≡ bytes_of_blocks end table (take (4 * j) chars)
    ++ bytes_of_blocks end table (take (4 * k) (drop (4 * j) chars))
blocks_plus end table j k chars fits =
    let whole : length (take (4 * j) chars) ≡ 4 * j = length-take-le (4 * j) chars fits in
    ap (bytes_of_blocks end table) (take_blocks_plus j k chars)
    ∙ bytes_of_blocks-append end table (take (4 * j) chars) (take (4 * k) (drop (4 * j) chars)) (omega arith)

-- a block filled with `A`
pub answer_zero : (p : Bool) (r : ℤ) → r ≡ (if p then pos 0 else pos 1) → nat_eq (of_z w16 r) 0 ≡ p
answer_zero true r h = rw h refl
answer_zero false r h = rw h refl

fill_in : (table : List ℕ) (n : ℕ) → Facts table → all_in table (replicate n 65) ≡ true
fill_in table zero f = refl
fill_in table (suc n) f = rw (f.has_a) (fill_in table n f)

and_true : (b : Bool) → (b && true) ≡ b
and_true true = refl
and_true false = refl

pub rest_in : (table rest : List ℕ) (n : ℕ) → Facts table → all_in table (rest ++ replicate n 65) ≡ all_in table rest
rest_in table rest n f = all_in-append table rest (replicate n 65) ∙ ap (λ b. all_in table rest && b) (fill_in table n f) ∙ and_true (all_in table rest)

pub block_bytes : (end : End) (table block : List ℕ) → length block ≡ 4
    → bytes_of_blocks end table block ≡ bytes_of end table (slice_index block 0) (slice_index block 1) (slice_index block 2) (slice_index block 3) ++ []
unfolding bytes_of_blocks
block_bytes end table (a ∷ b ∷ c ∷ d ∷ []) h = refl
block_bytes end table [] h = absurd (omega arith)
block_bytes end table (a ∷ []) h = absurd (omega arith)
block_bytes end table (a ∷ b ∷ []) h = absurd (omega arith)
block_bytes end table (a ∷ b ∷ c ∷ []) h = absurd (omega arith)
block_bytes end table (a ∷ b ∷ c ∷ d ∷ e ∷ xs) h = absurd (omega arith)

-- the parts of a clean text
pub unpadded_le : (padded : Bool) (t : List ℕ) → unpadded_len padded t ≤ length t
unpadded_le false t = omega arith
unpadded_le true t = omega arith

whole_test : (padded : Bool) (n : ℕ) → (padded ≡ true → n % 4 ≡ 0) → (not padded || (n % 4 == 0)) ≡ true
whole_test false n h = refl
whole_test true n h = rw (h refl) refl

five : (a b n p w : Bool) → w ≡ true → (a && (b && n) && p) ≡ ((a && b) && p && n && w)
five true true true true w h = sym h
five true true true false w h = refl
five true true false true w h = refl
five true true false false w h = refl
five true false n p w h = refl
five false b n p w h = refl

pub clean_parts : (table src : List ℕ) (padded : Bool) (u : ℕ) (rest : List ℕ) → u ≡ unpadded_len padded src → HasWholeBlocks padded src
    → rest ≡ take (u - 4 * (u / 4)) (drop (4 * (u / 4)) src)
    → (all_in table (take (4 * (u / 4)) src) && (all_in table rest && not (length rest == 1)) && all_pads (drop u src)) ≡ is_clean table padded src
clean_parts table src padded u rest is whole cut =
    let le : u ≤ length src = (let l = unpadded_le padded src in omega arith) in
    let at : 4 * (u / 4) + (u - 4 * (u / 4)) ≡ u = omega arith in
    let split : take u src ≡ take (4 * (u / 4)) src ++ rest = ap (λ n. take n src) (sym at) ∙ take_plus (4 * (u / 4)) (u - 4 * (u / 4)) src
    ∙ ap (λ ys. take (4 * (u / 4)) src ++ ys) (sym cut) in
    let l = length-drop (4 * (u / 4)) src in
    let len : length rest ≡ u % 4 = ap length cut ∙ length-take-le (u - 4 * (u / 4)) (drop (4 * (u / 4)) src) (omega arith) ∙ omega arith in
    let both : all_in table (take u src) ≡ (all_in table (take (4 * (u / 4)) src) && all_in table rest) = ap (all_in table) split
    ∙ all_in-append table (take (4 * (u / 4)) src) rest in
    let w = whole_test padded (length src) whole in
    rw (← is, both, ← len) (five (all_in table (take (4 * (u / 4)) src)) (all_in table rest) (not (length rest == 1)) (all_pads (drop u src))
    (not padded || (length src % 4 == 0)) w)

-- the bytes of a clean text
pub loose_parts : (end : End) (table src : List ℕ) (padded : Bool) (u : ℕ) (rest : List ℕ) → u ≡ unpadded_len padded src
    → rest ≡ take (u - 4 * (u / 4)) (drop (4 * (u / 4)) src)
    → loose_bytes (form end table padded) src ≡ bytes_of_blocks end table (take (4 * (u / 4)) src)
    ++ take (3 * (u % 4) / 4) (bytes_of_blocks end table (rest ++ replicate (4 - length rest) 65))
loose_parts end table src padded u rest is cut =
    let le : u ≤ length src = (let l = unpadded_le padded src in omega arith) in
    let at : 4 * (u / 4) + (u - 4 * (u / 4)) ≡ u = omega arith in
    let split : take u src ≡ take (4 * (u / 4)) src ++ rest = ap (λ n. take n src) (sym at) ∙ take_plus (4 * (u / 4)) (u - 4 * (u / 4)) src
    ∙ ap (λ ys. take (4 * (u / 4)) src ++ ys) (sym cut) in
    let l = length-drop (4 * (u / 4)) src in
    let len : length rest ≡ u % 4 = ap length cut ∙ length-take-le (u - 4 * (u / 4)) (drop (4 * (u / 4)) src) (omega arith) ∙ omega arith in
    let front : length (take (4 * (u / 4)) src) ≡ 4 * (u / 4) = length-take-le (4 * (u / 4)) src (omega arith) in
    let blocks : length (bytes_of_blocks end table (take (4 * (u / 4)) src)) ≡ 3 * (u / 4) =
    length-bytes_of_blocks end table (take (4 * (u / 4)) src) (omega arith) ∙ rw front (omega arith) in
    let joined : bytes_of_blocks end table (take u src ++ replicate (3 - (u - 1) % 4) 65) ≡ bytes_of_blocks end table (take (4 * (u / 4)) src)
    ++ bytes_of_blocks end table (rest ++ replicate (3 - (u - 1) % 4) 65)
    = rw split (ap (bytes_of_blocks end table) (append_assoc (take (4 * (u / 4)) src) rest (replicate (3 - (u - 1) % 4) 65))
    ∙ bytes_of_blocks-append end table (take (4 * (u / 4)) src) (rest ++ replicate (3 - (u - 1) % 4) 65) (omega arith)) in
    let cut_at : take (3 * (u / 4) + 3 * (u % 4) / 4) (bytes_of_blocks end table (take u src ++ replicate (3 - (u - 1) % 4) 65))
    ≡ bytes_of_blocks end table (take (4 * (u / 4)) src) ++ take (3 * (u % 4) / 4) (bytes_of_blocks end table (rest ++ replicate (3 - (u - 1) % 4) 65))
    = rw joined (take_over (3 * (u / 4)) (3 * (u % 4) / 4) (bytes_of_blocks end table (take (4 * (u / 4)) src))
    (bytes_of_blocks end table (rest ++ replicate (3 - (u - 1) % 4) 65)) blocks) in
    rw (← is) (cut_at ∙ elim (cases_lt (u % 4) 2) [
      | inl few ↦ (let none : 3 * (u % 4) / 4 ≡ 0 = omega arith in rw none refl)
      | inr more ↦ (let fill : 3 - (u - 1) % 4 ≡ 4 - length rest = omega arith in rw fill refl)
    ])

-- a text by its blocks before the last and its last
four_and : (a b c d e : Bool) → ((a && b) && c && d && e) ≡ (a && (b && c && d && e))
four_and true b c d e = refl
four_and false b c d e = refl

last_some : (padded : Bool) (t : List ℕ) → 0 < length t → (padded ≡ true → length t ≡ 4) → 1 ≤ unpadded_len padded t
last_some false t some whole = omega arith
last_some true t some whole = let l = whole refl in let p = pads_le t in omega arith

pub clean_split : (table src : List ℕ) (padded : Bool) (q : ℕ) → 4 * q ≤ length src → (padded ≡ true → 2 ≤ length (drop (4 * q) src))
    → is_clean table padded src ≡ (all_in table (take (4 * q) src) && is_clean table padded (drop (4 * q) src))
clean_split table src padded q le two =
    let u = unpadded_split padded src (4 * q) le two in
    let v : ℕ = unpadded_len padded (drop (4 * q) src) in
    let l = length-drop (4 * q) src in
    let first : take (4 * q + unpadded_len padded (drop (4 * q) src)) src ≡ take (4 * q) src
    ++ take (unpadded_len padded (drop (4 * q) src)) (drop (4 * q) src) = take_plus (4 * q) (unpadded_len padded (drop (4 * q) src)) src in
    let behind : drop (4 * q + unpadded_len padded (drop (4 * q) src)) src ≡ drop (unpadded_len padded (drop (4 * q) src)) (drop (4 * q) src) =
    sym (drop-drop (unpadded_len padded (drop (4 * q) src)) (4 * q) src) in
    let rest : (4 * q + unpadded_len padded (drop (4 * q) src)) % 4 ≡ unpadded_len padded (drop (4 * q) src) % 4 = omega arith in
    let size : length src % 4 ≡ length (drop (4 * q) src) % 4 = omega arith in
    ap (λ n. all_in table (take n src) && all_pads (drop n src) && not (n % 4 == 1) && (not padded || (length src % 4 == 0))) u
    ∙ rw (first, behind, rest, size, all_in-append table (take (4 * q) src) (take (unpadded_len padded (drop (4 * q) src)) (drop (4 * q) src)))
    (four_and (all_in table (take (4 * q) src)) (all_in table (take (unpadded_len padded (drop (4 * q) src)) (drop (4 * q) src)))
    (all_pads (drop (unpadded_len padded (drop (4 * q) src)) (drop (4 * q) src)))
    (not (unpadded_len padded (drop (4 * q) src) % 4 == 1)) (not padded || (length (drop (4 * q) src) % 4 == 0)))

pub loose_split : (end : End) (table src : List ℕ) (padded : Bool) (q : ℕ) → 4 * q ≤ length src → (padded ≡ true → 2 ≤ length (drop (4 * q) src))
    → 1 ≤ unpadded_len padded (drop (4 * q) src)
    → loose_bytes (form end table padded) src ≡ bytes_of_blocks end table (take (4 * q) src) ++ loose_bytes (form end table padded) (drop (4 * q) src)
loose_split end table src padded q le two some =
    let u = unpadded_split padded src (4 * q) le two in
    let l = length-drop (4 * q) src in
    let first : take (4 * q + unpadded_len padded (drop (4 * q) src)) src ≡ take (4 * q) src
    ++ take (unpadded_len padded (drop (4 * q) src)) (drop (4 * q) src) = take_plus (4 * q) (unpadded_len padded (drop (4 * q) src)) src in
    let fill : (4 * q + unpadded_len padded (drop (4 * q) src) - 1) % 4 ≡ (unpadded_len padded (drop (4 * q) src) - 1) % 4 = omega arith in
    let room : decoded_len (4 * q + unpadded_len padded (drop (4 * q) src)) ≡ 3 * q + decoded_len (unpadded_len padded (drop (4 * q) src)) = omega arith in
    let front : length (take (4 * q) src) ≡ 4 * q = length-take-le (4 * q) src le in
    let blocks : length (bytes_of_blocks end table (take (4 * q) src)) ≡ 3 * q = length-bytes_of_blocks end table (take (4 * q) src) (omega arith)
    ∙ rw front (omega arith) in
    let rest : List ℕ = take (unpadded_len padded (drop (4 * q) src)) (drop (4 * q) src) in
    ap (λ n. take (decoded_len n) (bytes_of_blocks end table (take n src ++ replicate (3 - (n - 1) % 4) 65))) u
    ∙ ap (λ n. take n (bytes_of_blocks end table (take (4 * q + unpadded_len padded (drop (4 * q) src)) src
    ++ replicate (3 - (4 * q + unpadded_len padded (drop (4 * q) src) - 1) % 4) 65))) room
    ∙ rw (first, fill) (ap (λ xs. take (3 * q + decoded_len (unpadded_len padded (drop (4 * q) src))) (bytes_of_blocks end table xs))
    (append_assoc (take (4 * q) src) (take (unpadded_len padded (drop (4 * q) src)) (drop (4 * q) src))
    (replicate (3 - (unpadded_len padded (drop (4 * q) src) - 1) % 4) 65))
    ∙ ap (take (3 * q + decoded_len (unpadded_len padded (drop (4 * q) src))))
    (bytes_of_blocks-append end table (take (4 * q) src) (take (unpadded_len padded (drop (4 * q) src)) (drop (4 * q) src)
    ++ replicate (3 - (unpadded_len padded (drop (4 * q) src) - 1) % 4) 65) (omega arith))
    ∙ take_over (3 * q) (decoded_len (unpadded_len padded (drop (4 * q) src))) (bytes_of_blocks end table (take (4 * q) src))
    (bytes_of_blocks end table (take (unpadded_len padded (drop (4 * q) src)) (drop (4 * q) src)
    ++ replicate (3 - (unpadded_len padded (drop (4 * q) src) - 1) % 4) 65)) blocks)

-- an encoding is clean, and its bytes are those that it stands for
pub record IsText (end : End) (table : List ℕ) (padded : Bool) (src b : List ℕ) : Type 0 where
  pub clean : is_clean table padded src ≡ true
  pub loose : loose_bytes (form end table padded) src ≡ b

empty_clean : (table : List ℕ) (padded : Bool) → is_clean table padded [] ≡ true
empty_clean table true = refl
empty_clean table false = refl

pub empty_loose : (end : End) (table : List ℕ) (padded : Bool) → loose_bytes (form end table padded) [] ≡ []
unfolding bytes_of_blocks
empty_loose end table true = refl
empty_loose end table false = refl

pub is_text : (end : End) (table : List ℕ) (padded : Bool) (src b : List ℕ) → Facts table → IsBytes b → src ≡ encoding_of (form end table padded) b
    → IsText end table padded src b
is_text end table padded [] b f bytes is = record {
  clean = empty_clean table padded;
  loose = empty_loose end table padded ∙ sym (empty_value end table padded b (sym is));
}
is_text end table padded (x ∷ src) b f bytes is =
    let t : List ℕ = x ∷ src in
    let q : ℕ = (length (x ∷ src) - 1) / 4 in
    let h = halves end table padded (x ∷ src) b ((length (x ∷ src) - 1) / 4) (omega arith) bytes is in
    let l = length-drop (4 * ((length (x ∷ src) - 1) / 4)) (x ∷ src) in
    let last = is_last end table padded (drop (4 * ((length (x ∷ src) - 1) / 4)) (x ∷ src)) (drop (3 * ((length (x ∷ src) - 1) / 4)) b) f h.rest_bytes
    (omega arith) (omega arith) h.rest in
    let two = last.two in
    let len = last.len in
    let front = bytes_of_blocks_characters end table (take (3 * ((length (x ∷ src) - 1) / 4)) b) f h.front_bytes h.whole in
    record {
      clean = clean_split table (x ∷ src) padded ((length (x ∷ src) - 1) / 4) (omega arith) (λ p. last.two) ∙ rw (h.front, front.0, last.clean) refl;
      loose = loose_split end table (x ∷ src) padded ((length (x ∷ src) - 1) / 4) (omega arith) (λ p. last.two) (omega arith)
          ∙ ap (λ xs. bytes_of_blocks end table xs ++ loose_bytes (form end table padded) (drop (4 * ((length (x ∷ src) - 1) / 4)) (x ∷ src))) h.front
          ∙ ap (λ xs. xs ++ loose_bytes (form end table padded) (drop (4 * ((length (x ∷ src) - 1) / 4)) (x ∷ src))) front.1
          ∙ ap (λ xs. take (3 * ((length (x ∷ src) - 1) / 4)) b ++ xs)
          (last_loose end table padded (drop (4 * ((length (x ∷ src) - 1) / 4)) (x ∷ src)) (drop (3 * ((length (x ∷ src) - 1) / 4)) b) last)
          ∙ take-append-drop (3 * ((length (x ∷ src) - 1) / 4)) b;
    }

pub length-loose_bytes : (end : End) (table src : List ℕ) (padded : Bool) → length (loose_bytes (form end table padded) src)
    ≡ decoded_len (unpadded_len padded src)
length-loose_bytes end table src padded =
    let u : ℕ = unpadded_len padded src in
    elim (cases_eq (unpadded_len padded src) 0) [
      | inl e ↦ rw e refl
      | inr some ↦ (let le = unpadded_le padded src in
          let front : length (take (unpadded_len padded src) src) ≡ unpadded_len padded src = length-take-le (unpadded_len padded src) src le in
          let l = length-append (take (unpadded_len padded src) src) (replicate (3 - (unpadded_len padded src - 1) % 4) 65) in
          let r = length-replicate {A = ℕ} (3 - (unpadded_len padded src - 1) % 4) 65 in
          let n : length (take (unpadded_len padded src) src ++ replicate (3 - (unpadded_len padded src - 1) % 4) 65) ≡ unpadded_len padded src
          + (3 - (unpadded_len padded src - 1) % 4) = omega arith in
          let blocks = length-bytes_of_blocks end table (take (unpadded_len padded src) src ++ replicate (3 - (unpadded_len padded src - 1) % 4) 65)
          (omega (arith, some)) in
          length-take-le (decoded_len (unpadded_len padded src))
          (bytes_of_blocks end table (take (unpadded_len padded src) src ++ replicate (3 - (unpadded_len padded src - 1) % 4) 65)) (omega (arith, some)))
    ]

-- the last block of a clean text, and its bytes
pub record IsLoose (end : End) (table src : List ℕ) (padded : Bool) (q : ℕ) : Type 0 where
  pub front : all_in table (take (4 * q) src) ≡ true
  pub within : 3 * q ≤ decoded_len (unpadded_len padded src)
  pub few : decoded_len (unpadded_len padded src) - 3 * q ≤ 3
  pub some : 1 ≤ decoded_len (unpadded_len padded src) - 3 * q
  pub whole : (decoded_len (unpadded_len padded src) - 3 * q ≡ 3) ↔ (unpadded_len padded src % 4 ≡ 0)
  pub last : drop (3 * q) (loose_bytes (form end table padded) src) ≡ loose_bytes (form end table padded) (drop (4 * q) src)
  pub split : loose_bytes (form end table padded) src ≡ bytes_of_blocks end table (take (4 * q) src) ++ loose_bytes (form end table padded) (drop (4 * q) src)

not_one : (n : ℕ) → not (n == 1) ≡ true → n ≡ 1 → ⊥
not_one n h e = let bad : not true ≡ true = rw e at h in cc

pub is_loose : (end : End) (table src : List ℕ) (padded : Bool) (q : ℕ) → q ≡ (length src - 1) / 4 → 0 < length src → HasWholeBlocks padded src
    → is_clean table padded src ≡ true
    → IsLoose end table src padded q
is_loose end table src padded q at some whole clean =
    let l = length-drop (4 * q) src in
    let four : padded ≡ true → length (drop (4 * q) src) ≡ 4 = λ p. (let w = whole p in omega arith) in
    let two : padded ≡ true → 2 ≤ length (drop (4 * q) src) = λ p. (let w = four p in omega arith) in
    let one = last_some padded (drop (4 * q) src) (omega arith) four in
    let le = unpadded_le padded (drop (4 * q) src) in
    let u = unpadded_split padded src (4 * q) (omega arith) two in
    let parts = and_parts (all_in table (take (4 * q) src)) (is_clean table padded (drop (4 * q) src))
    (sym (clean_split table src padded q (omega arith) two) ∙ clean) in
    let last = and_parts (all_in table (take (unpadded_len padded src) src) && all_pads (drop (unpadded_len padded src) src) && not
    (unpadded_len padded src % 4 == 1)) (not padded || (length src % 4 == 0)) clean in
    let ne = not_one (unpadded_len padded src % 4) (and_parts
    (all_in table (take (unpadded_len padded src) src) && all_pads (drop (unpadded_len padded src) src)) (not (unpadded_len padded src % 4 == 1))
    last.0).1 in
    let split = loose_split end table src padded q (omega arith) two one in
    let front : length (take (4 * q) src) ≡ 4 * q = length-take-le (4 * q) src (omega arith) in
    let blocks : length (bytes_of_blocks end table (take (4 * q) src)) ≡ 3 * q = length-bytes_of_blocks end table (take (4 * q) src) (omega arith)
    ∙ rw front (omega arith) in
    record {
      front = parts.0;
      within = omega (arith, ne);
      few = omega (arith, ne);
      some = omega (arith, ne);
      whole = (λ e. omega (arith, ne), λ e. omega (arith, ne));
      last = ap (drop (3 * q)) split ∙ drop_at (bytes_of_blocks end table (take (4 * q) src)) (loose_bytes (form end table padded) (drop (4 * q) src))
          (3 * q) blocks;
      split = split;
    }

-- a clean text whose last block is the encoding of its last bytes is the encoding of its bytes
pub text_from_last : (end : End) (table src last : List ℕ) (padded : Bool) (q : ℕ) → Facts table → q ≡ (length src - 1) / 4 → 0 < length src
    → IsLoose end table src padded q
    → last ≡ drop (3 * q) (loose_bytes (form end table padded) src) → drop (4 * q) src ≡ encoding_of (form end table padded) last
    → src ≡ encoding_of (form end table padded) (loose_bytes (form end table padded) src)
text_from_last end table src last padded q f at some loose is text =
    whole_text end table padded src last q f (omega arith) loose.front text
    ∙ ap (λ xs. encoding_of (form end table padded) (bytes_of_blocks end table (take (4 * q) src) ++ xs)) (is ∙ loose.last)
    ∙ ap (encoding_of (form end table padded)) (sym loose.split)

-- and no other text has bytes
pub none_from_last : (end : End) (table src last : List ℕ) (padded : Bool) (q : ℕ) → Facts table → q ≡ (length src - 1) / 4 → 0 < length src
    → last ≡ drop (3 * q) (loose_bytes (form end table padded) src) → (drop (4 * q) src ≡ encoding_of (form end table padded) last → ⊥)
    → IsNoEncoding (form end table padded) src
none_from_last end table src last padded q f at some is differs b bytes text =
    let h = halves end table padded src b q (omega arith) bytes text in
    let same = (is_text end table padded src b f bytes text).loose in
    differs (h.rest ∙ ap (λ xs. encoding_of (form end table padded) xs) (ap (drop (3 * q)) (sym same) ∙ sym is))

-- what was written over the front
pub written_front : (end : End) (table src dst new buf : List ℕ) (q k : ℕ) → 4 * q ≤ length src → 3 * q + k ≤ length dst
    → take (3 * q) dst ≡ bytes_of_blocks end table (take (4 * q) src) → new ≡ buf → length buf ≡ k
    → take (3 * q + k) (put_mid (3 * q) (3 * q + k - 3 * q) dst new) ≡ bytes_of_blocks end table (take (4 * q) src) ++ buf
written_front end table src dst new buf q k le room was is len =
    written_text end table src dst (drop (3 * q) dst) new buf q k le room (sym (take-append-drop (3 * q) dst) ∙ ap (λ xs. xs ++ drop (3 * q) dst) was) is len
