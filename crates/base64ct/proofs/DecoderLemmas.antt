-- What a decoder has left, and the bytes of its text.
use Rattle.std.proofs.Common.{◌≡◌, ℕ, zero, suc, ◌+◌, ◌-◌, ◌*◌, ◌/◌, ◌%◌, ◌<◌, ◌≤◌, Bool, true, false, ◌&&◌, ◌==◌, List, [], ◌∷◌, ◌++◌, length, slice_index}
use Rattle.std.proofs.Common.{take, drop, arith, refl, ap, sym, ◌∙◌, map, append-nil, Option, Some, None, Contains, inl, inr, length-append, length-drop}
use Rattle.std.proofs.lemmas.Bool.{cases_Bool, both_ways, eqb-true, and_parts}
use Rattle.std.proofs.lemmas.List.{length-take-le, take_all, take_at}
use Rattle.std.proofs.lemmas.List.Elements.{Contains-append_left, Contains-append_right, All-same}
use Rattle.base64_alphabet.proofs.Forms.{form}
use Rattle.base64_alphabet.specs.Table.{all_in, is_in}
use Rattle.base64_alphabet.specs.Group.{End, High, Low, bytes_of}
use Rattle.base64_alphabet.specs.Encoding.{encoding_of, bytes_of_blocks}
use Rattle.base64_alphabet.proofs.TableLemmas.{Facts}
use Rattle.base64_text.specs.Canonical.{IsBytes, loose_bytes}
use Rattle.base64_text.specs.LastBlock.{last_at, HasCanonicalEnd}
use Rattle.base64ct.specs.Items.{block_items, items, IsWrapped}
use Rattle.base64ct.specs.Lines.{IsLine, is_line_break, joined, has_endings, IsWrappedText}
use Rattle.base64_text.proofs.Algebra.{is_in_at}
use Rattle.base64ct.proofs.LinesLemmas.{lines_are, joined-walk, joined_some, lines_back}
use Rattle.base64_text.proofs.EncodingLemmas.{empty_value, encoding_all}
use Rattle.base64_text.proofs.LastLemmas.{is_last, last_loose}
use Rattle.base64ct.proofs.ItemsLemmas.{map-append, encoding_items}
use Rattle.base64_text.proofs.WholeLemmas.{whole_text, halves}

-- lists of good items
pub map_some_back : (xs ys : List ℕ) → map {A = ℕ} {B = Option ℕ} Some xs ≡ map Some ys → xs ≡ ys
map_some_back [] [] h = refl
map_some_back [] (y ∷ ys) h = cc
map_some_back (x ∷ xs) [] h = cc
map_some_back (x ∷ xs) (y ∷ ys) h =
    let a : x ≡ y = cc in
    let t : map {A = ℕ} {B = Option ℕ} Some xs ≡ map Some ys = cc in
    let r = map_some_back xs ys t in
    cc

pub length-map_some : (xs : List ℕ) → length (map {A = ℕ} {B = Option ℕ} Some xs) ≡ length xs
length-map_some [] = refl
length-map_some (x ∷ xs) = ap suc (length-map_some xs)

three_map : (end : End) (table : List ℕ) (p q r s : ℕ) → length (map {A = ℕ} {B = Option ℕ} Some (bytes_of end table p q r s)) ≡ 3
three_map High table p q r s = refl
three_map Low table p q r s = refl

pub length-block_items : (end : End) (table t : List ℕ) → length t % 4 ≡ 0 → length (block_items end table t) ≡ 3 * (length t / 4)
unfolding block_items
length-block_items end table [] whole = refl
length-block_items end table (p ∷ []) whole = absurd (omega arith)
length-block_items end table (p ∷ q ∷ []) whole = absurd (omega arith)
length-block_items end table (p ∷ q ∷ r ∷ []) whole = absurd (omega arith)
length-block_items end table (p ∷ q ∷ r ∷ s ∷ t) whole =
    let e = length-block_items end table t (omega arith) in
    elim (cases_Bool (all_in table (p ∷ q ∷ r ∷ s ∷ []))) [
      | inl g ↦ rw g (let l = length-append (map {A = ℕ} {B = Option ℕ} Some (bytes_of end table p q r s)) (block_items end table t) in let m =
          three_map end table p q r s in omega arith)
      | inr b ↦ rw b (omega arith)
    ]

-- four characters and the rest
four_and : (a b c d e : Bool) → (a && (b && (c && (d && e)))) ≡ ((a && (b && (c && (d && true)))) && e)
four_and true true true true e = refl
four_and true true true false e = refl
four_and true true false d e = refl
four_and true false c d e = refl
four_and false b c d e = refl

all_four : (table : List ℕ) (p q r s : ℕ) (t : List ℕ) → all_in table (p ∷ q ∷ r ∷ s ∷ t) ≡ (all_in table (p ∷ q ∷ r ∷ s ∷ []) && all_in table t)
all_four table p q r s t = four_and (is_in table p) (is_in table q) (is_in table r) (is_in table s) (all_in table t)

-- blocks in the table give their bytes
pub block_items-good : (end : End) (table t : List ℕ) → length t % 4 ≡ 0 → all_in table t ≡ true
    → block_items end table t ≡ map Some (bytes_of_blocks end table t)
unfolding block_items bytes_of_blocks
block_items-good end table [] whole h = refl
block_items-good end table (p ∷ []) whole h = absurd (omega arith)
block_items-good end table (p ∷ q ∷ []) whole h = absurd (omega arith)
block_items-good end table (p ∷ q ∷ r ∷ []) whole h = absurd (omega arith)
block_items-good end table (p ∷ q ∷ r ∷ s ∷ t) whole h =
    let parts = and_parts (all_in table (p ∷ q ∷ r ∷ s ∷ [])) (all_in table t) (rw (all_four table p q r s t) at h) in
    rw (parts.0) (ap (λ xs. map Some (bytes_of end table p q r s) ++ xs) (block_items-good end table t (omega arith) parts.1)
    ∙ map-append (bytes_of end table p q r s) (bytes_of_blocks end table t))

-- other blocks give a bad item
pub block_items-bad : (end : End) (table t : List ℕ) → length t % 4 ≡ 0 → all_in table t ≡ false → Contains (block_items end table t) None
unfolding block_items
block_items-bad end table [] whole h = cc
block_items-bad end table (p ∷ []) whole h = absurd (omega arith)
block_items-bad end table (p ∷ q ∷ []) whole h = absurd (omega arith)
block_items-bad end table (p ∷ q ∷ r ∷ []) whole h = absurd (omega arith)
block_items-bad end table (p ∷ q ∷ r ∷ s ∷ t) whole h = elim (cases_Bool (all_in table (p ∷ q ∷ r ∷ s ∷ []))) [
  | inl g ↦ rw g (Contains-append_right (map Some (bytes_of end table p q r s)) (block_items end table t) None
      (block_items-bad end table t (omega arith) (let e : (all_in table (p ∷ q ∷ r ∷ s ∷ []) && all_in table t) ≡ false =
      rw (all_four table p q r s t) at h in rw g at e)))
  | inr b ↦ rw b (0, omega arith, refl)
]

-- no bad item stands among good ones
pub none_bad : (b : List ℕ) → Contains (map Some b) None → ⊥
none_bad [] (k, lt, is) = omega arith
none_bad (x ∷ b) (zero, lt, is) = cc
none_bad (x ∷ b) (suc k, lt, is) = none_bad b (k, omega arith, is)

-- the last block's bytes
pub canonical_loose : (end : End) (table : List ℕ) (padded : Bool) (t b : List ℕ) → Facts table → 0 < length t → IsBytes b
    → drop (last_at (length t)) t ≡ encoding_of (form end table padded) b → loose_bytes (form end table padded) (drop (last_at (length t)) t) ≡ b
canonical_loose end table padded t b f some bytes is =
    let e = length-drop (last_at (length t)) t in
    last_loose end table padded (drop (last_at (length t)) t) b
    (is_last end table padded (drop (last_at (length t)) t) b f bytes (omega arith) (omega arith) is)

-- what the items of a text with a canonical end tell
pub items_encoding : (end : End) (table : List ℕ) (padded : Bool) (t b : List ℕ) → Facts table → 0 < length t → HasCanonicalEnd (form end table padded) t
    → items (form end table padded) t ≡ map Some b → t ≡ encoding_of (form end table padded) b
items_encoding end table padded t b f some (last, bytes, is) h =
    let q : ℕ = (length t - 1) / 4 in
    let le : 4 * ((length t - 1) / 4) ≤ length t = omega arith in
    let len : length (take (last_at (length t)) t) ≡ 4 * ((length t - 1) / 4) = length-take-le (last_at (length t)) t le in
    let whole : length (take (last_at (length t)) t) % 4 ≡ 0 = omega arith in
    let loose = canonical_loose end table padded t last f some bytes is in
    elim (cases_Bool (all_in table (take (last_at (length t)) t))) [
      | inl g ↦ (let i : map Some (bytes_of_blocks end table (take (last_at (length t)) t) ++ last) ≡ map Some b
          = sym (map-append (bytes_of_blocks end table (take (last_at (length t)) t)) last)
          ∙ sym (ap (λ xs. xs ++ map Some last) (block_items-good end table (take (last_at (length t)) t) whole g))
          ∙ sym (ap (λ xs. block_items end table (take (last_at (length t)) t) ++ map Some xs) loose) ∙ h in
          whole_text end table padded t last ((length t - 1) / 4) f le g is
          ∙ ap (encoding_of (form end table padded)) (map_some_back _ _ i))
      | inr bad ↦ absurd (none_bad b (rw h at (Contains-append_left (block_items end table (take (last_at (length t)) t))
          (map Some (loose_bytes (form end table padded) (drop (last_at (length t)) t))) None
          (block_items-bad end table (take (last_at (length t)) t) whole bad))))
    ]

-- a text is the encoding of one list of bytes at most
pub one_value : (end : End) (table : List ℕ) (padded : Bool) (t a b : List ℕ) → Facts table → IsBytes a → IsBytes b
    → t ≡ encoding_of (form end table padded) a → t ≡ encoding_of (form end table padded) b → a ≡ b
one_value end table padded [] a b f x y p q = empty_value end table padded a (sym p) ∙ sym (empty_value end table padded b (sym q))
one_value end table padded (c ∷ t) a b f x y p q =
    map_some_back a b (sym (encoding_items end table padded (c ∷ t) a f x (omega arith) p) ∙ encoding_items end table padded (c ∷ t) b f y (omega arith) q)

-- an encoding has no CR and no LF
not_break : (table : List ℕ) (c : ℕ) → Facts table → is_in table c ≡ true → is_line_break c ≡ false
not_break table c f is = elim (cases_Bool (c == 13)) [
  | inl e ↦ absurd (both_ways (is_in table 13) f.no_cr (rw (eqb-true c 13 e) at is))
  | inr e ↦ elim (cases_Bool (c == 10)) [
    | inl g ↦ absurd (both_ways (is_in table 10) f.no_lf (rw (eqb-true c 10 g) at is))
    | inr g ↦ rw (e, g) refl
  ]
]

at_place : (table : List ℕ) (k : ℕ) → Facts table → k < 64 → is_line_break (slice_index table k) ≡ false
at_place table k f lt = let l = f.len in not_break table (slice_index table k) f (is_in_at table k (omega arith))

abbrev NoBreak : ℕ → Type 0
NoBreak c = is_line_break c ≡ false

pub encoding_line : (end : End) (table : List ℕ) (padded : Bool) (b : List ℕ) → Facts table → IsBytes b → IsLine (encoding_of (form end table padded) b)
encoding_line end table padded b f bytes = encoding_all NoBreak end table padded b (λ k lt. at_place table k f lt) refl bytes

-- ---- texts in lines

pub some_joined : (w : ℕ) (text : List ℕ) → 0 < w → 0 < length text → has_endings w text ≡ true → 0 < length (joined w text)
some_joined w text low some ends =
    let s = joined_some w text low some in
    let l = ap length (joined-walk w text low ends) in
    omega arith

-- the lines of an encoding
pub record OfBytes (end : End) (table : List ℕ) (padded : Bool) (w : ℕ) (text b : List ℕ) : Type 0 where
  pub some : 0 < length text
  pub accepted : IsWrapped (form end table padded) w text
  pub items : items (form end table padded) (joined w text) ≡ map Some b

pub of_bytes : (end : End) (table : List ℕ) (padded : Bool) (w : ℕ) (text b : List ℕ) → Facts table → 0 < w → IsWrappedText (form end table padded) w text b
    → OfBytes end table padded w text b
of_bytes end table padded w text b f low (t, lines, is, bytes) =
    let a = lines_are w text t low lines in
    let is' : joined w text ≡ encoding_of (form end table padded) b = a.is_joined ∙ is in
    let some = some_joined w text low a.some a.ends in
    let n : ℕ = length (joined w text) in
    let h = halves end table padded (joined w text) b ((length (joined w text) - 1) / 4) (omega arith) bytes is' in
    record {
      some = a.some;
      accepted = (a.last, a.ends, (drop (3 * ((length (joined w text) - 1) / 4)) b, h.rest_bytes, h.rest));
      items = encoding_items end table padded (joined w text) b f bytes some is';
    }

pub bytes_of_lines : (end : End) (table : List ℕ) (padded : Bool) (w : ℕ) (text b : List ℕ) → Facts table → 0 < w → 0 < length text
    → IsWrapped (form end table padded) w text
    → IsBytes b → items (form end table padded) (joined w text) ≡ map Some b → IsWrappedText (form end table padded) w text b
bytes_of_lines end table padded w text b f low some (last, ends, canonical) bytes h =
    let long = some_joined w text low some ends in
    let is : joined w text ≡ encoding_of (form end table padded) b = items_encoding end table padded (joined w text) b f long canonical h in
    let line : IsLine (joined w text) = All-same NoBreak (joined w text) (encoding_of (form end table padded) b) is
    (encoding_line end table padded b f bytes) in
    (joined w text, lines_back w text low some ends last line, is, bytes)

-- how many items there are
pub length-items : (end : End) (table : List ℕ) (padded : Bool) (t : List ℕ) → 0 < length t
    → length (items (form end table padded) t) ≡ 3 * ((length t - 1) / 4) + length (loose_bytes (form end table padded) (drop (last_at (length t)) t))
length-items end table padded t some =
    let le : 4 * ((length t - 1) / 4) ≤ length t = omega arith in
    let len : length (take (last_at (length t)) t) ≡ 4 * ((length t - 1) / 4) = length-take-le (last_at (length t)) t le in
    let front = length-block_items end table (take (last_at (length t)) t) (omega arith) in
    let both = length-append (block_items end table (take (last_at (length t)) t))
    (map Some (loose_bytes (form end table padded) (drop (last_at (length t)) t))) in
    let rest = length-map_some (loose_bytes (form end table padded) (drop (last_at (length t)) t)) in
    omega arith

-- what stood before
pub front_of : (old rest : List ℕ) (start n : ℕ) → start ≡ length old → start ≤ n → take start (take n old ++ rest) ≡ old
front_of old rest start n is le =
    let all : take n old ≡ old = take_all n old (omega arith) in
    rw all (take_at old rest start (sym is))

-- what was appended
pub appended : (items old out post rest : List ℕ) (start n : ℕ) → take start items ≡ old → post ≡ [] → rest ≡ [] → n ≡ length old + length out
    → take n ((take start items ++ (out ++ post)) ++ rest) ≡ old ++ out
appended items old out post rest start n front none behind is =
    let l = length-append old out in
    rw (behind, none, front, append-nil, append-nil) (take_all n (old ++ out) (omega arith))
