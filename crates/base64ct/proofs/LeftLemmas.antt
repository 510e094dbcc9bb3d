-- What a decoder has left, piece by piece.
use Rattle.std.proofs.Common.{◌≡◌, ℕ, zero, suc, ◌+◌, ◌-◌, ◌*◌, ◌%◌, ◌<◌, ◌≤◌, true, false, List, [], ◌∷◌, ◌++◌, length, take, drop, arith, refl, ap, sym, ◌∙◌}
use Rattle.std.proofs.Common.{map, append-nil, append_assoc, Option, Some, None, if◌then◌else◌, Contains, IfNone, length-append, length-drop}
use Rattle.std.proofs.lemmas.List.{take-append-drop, length-take-le, take_at, drop_all, drop_at}
use Rattle.std.proofs.lemmas.List.Elements.{Contains-append_left, Contains-append_right}
use borrow.Rule.Slice.PartMut.{put_mid}
use Rattle.base64_alphabet.specs.Table.{all_in}
use Rattle.base64_alphabet.specs.Group.{End, bytes_of}
use Rattle.base64_alphabet.specs.Encoding.{bytes_of_blocks}
use Rattle.base64_text.proofs.LooseLemmas.{take_plus, take_blocks_plus, blocks_plus}
use Rattle.base64_text.proofs.WholeLemmas.{length-bytes_of_blocks}
use Rattle.base64ct.specs.Items.{block_items}
use Rattle.base64ct.proofs.ItemsLemmas.{map-append}
use Rattle.base64ct.proofs.DecoderLemmas.{block_items-good, block_items-bad, length-block_items, length-map_some}

-- ---- lists of items

take_past : (xs ys : List (Option ℕ)) (n : ℕ) → length xs ≤ n → take n (xs ++ ys) ≡ xs ++ take (n - length xs) ys
take_past [] ys n le = let e : n - 0 ≡ n = omega arith in rw e refl
take_past (x ∷ xs) ys zero le = absurd (omega arith)
take_past (x ∷ xs) ys (suc n) le =
    let e : suc n - suc (length xs) ≡ n - length xs = omega arith in
    rw e (ap (λ zs. x ∷ zs) (take_past xs ys n (omega arith)))

-- a bad item among the first ones
pub bad_within : (xs ys : List (Option ℕ)) (n : ℕ) → length xs ≤ n → Contains xs None → Contains (take n (xs ++ ys)) None
bad_within xs ys n le bad = rw (take_past xs ys n le) (Contains-append_left xs (take (n - length xs) ys) None bad)

-- a bad item behind good ones
pub bad_behind : (xs ys : List (Option ℕ)) (a : List ℕ) (m n : ℕ) → xs ≡ map Some a ++ ys → n ≡ length a + m → Contains (take m ys) None
    → Contains (take n xs) None
bad_behind xs ys a m n is count bad =
    let len = length-map_some a in
    let e : n - length (map {A = ℕ} {B = Option ℕ} Some a) ≡ m = omega arith in
    rw (is, take_past (map Some a) ys n (omega arith), e) (Contains-append_right (map Some a) (take m ys) None bad)

-- two pieces are one
pub two_pieces : (xs ys zs : List (Option ℕ)) (a b c : List ℕ) → xs ≡ map Some a ++ ys → ys ≡ map Some b ++ zs → c ≡ a ++ b → xs ≡ map Some c ++ zs
two_pieces xs ys zs a b c p q is =
    p ∙ ap (λ us. map Some a ++ us) q ∙ sym (append_assoc (map Some a) (map Some b) zs) ∙ ap (λ us. us ++ zs) (map-append a b)
    ∙ ap (λ us. map Some us ++ zs) (sym is)

-- the first of a few bytes are given
pub given_items : (few kept : List ℕ) (rest : List (Option ℕ)) (n : ℕ) → kept ≡ drop n few
    → map Some few ++ rest ≡ map Some (take n few) ++ (map Some kept ++ rest)
given_items few kept rest n is =
    ap (λ us. map Some us ++ rest) (sym (take-append-drop n few)) ∙ ap (λ us. us ++ rest) (sym (map-append (take n few) (drop n few)))
    ∙ append_assoc (map Some (take n few)) (map Some (drop n few)) rest ∙ ap (λ us. map Some (take n few) ++ (map Some us ++ rest)) (sym is)

pub IfNone_then : {X : Type 0} {P Q : Type 0} (r : Option X) → IfNone r P → (P → Q) → IfNone r Q
IfNone_then None p f = f p
IfNone_then (Some x) p f = p

-- ---- parts of an output

pub put_front : (k : ℕ) (xs new : List ℕ) → put_mid 0 (k - 0) xs new ≡ new ++ drop k xs
put_front k xs new = let e : k - 0 ≡ k = omega arith in rw e refl

pub put_whole : (k : ℕ) (xs new : List ℕ) → length xs ≤ k → put_mid 0 (k - 0) xs new ≡ new
put_whole k xs new le = put_front k xs new ∙ rw (drop_all k xs le) (append-nil new)

pub put_back : (k : ℕ) (xs new : List ℕ) → put_mid k (length xs - k) xs new ≡ take k xs ++ new
put_back k xs new =
    let l = length-drop k xs in
    ap (λ us. take k xs ++ (new ++ us)) (drop_all (length xs - k) (drop k xs) (omega arith)) ∙ ap (λ us. take k xs ++ us) (append-nil new)

-- ---- blocks

block_items-append : (end : End) (table x y : List ℕ) → length x % 4 ≡ 0 → block_items end table (x ++ y) ≡ block_items end table x ++ block_items end table y
unfolding block_items
block_items-append end table [] y whole = refl
block_items-append end table (p ∷ []) y whole = absurd (omega arith)
block_items-append end table (p ∷ q ∷ []) y whole = absurd (omega arith)
block_items-append end table (p ∷ q ∷ r ∷ []) y whole = absurd (omega arith)
block_items-append end table (p ∷ q ∷ r ∷ s ∷ x) y whole =
    let first : List (Option ℕ) = if all_in table (p ∷ q ∷ r ∷ s ∷ []) then map Some (bytes_of end table p q r s) else None ∷ None ∷ None ∷ [] in
    ap (λ zs. first ++ zs) (block_items-append end table x y (omega arith)) ∙ sym (append_assoc first (block_items end table x) (block_items end table y))

split_blocks : (end : End) (table chars : List ℕ) (b k : ℕ) → k ≤ b → 4 * b ≤ length chars
    → block_items end table (take (4 * b) chars) ≡ block_items end table (take (4 * k) chars) ++ block_items end table (take (4 * (b - k)) (drop (4 * k) chars))
split_blocks end table chars b k le fits =
    let len : length (take (4 * k) chars) ≡ 4 * k = length-take-le (4 * k) chars (omega arith) in
    let e : b ≡ k + (b - k) = omega arith in
    ap (λ n. block_items end table (take (4 * n) chars)) e ∙ ap (block_items end table) (take_blocks_plus k (b - k) chars)
    ∙ block_items-append end table (take (4 * k) chars) (take (4 * (b - k)) (drop (4 * k) chars)) (omega arith)

-- blocks that were decoded
pub blocks_taken : (end : End) (table chars behind new : List ℕ) (last : List (Option ℕ)) (b k : ℕ) → k ≤ b → 4 * b ≤ length chars → behind ≡ drop (4 * k) chars
    → all_in table (take (4 * k) chars) ≡ true → new ≡ bytes_of_blocks end table (take (4 * k) chars)
    → block_items end table (take (4 * b) chars) ++ last ≡ map Some new ++ (block_items end table (take (4 * (b - k)) behind) ++ last)
blocks_taken end table chars behind new last b k le fits is good bytes =
    let len : length (take (4 * k) chars) ≡ 4 * k = length-take-le (4 * k) chars (omega arith) in
    let items : block_items end table (take (4 * k) chars) ≡ map Some new = block_items-good end table (take (4 * k) chars) (omega arith) good
    ∙ ap (map Some) (sym bytes) in
    ap (λ us. us ++ last) (split_blocks end table chars b k le fits)
    ∙ append_assoc (block_items end table (take (4 * k) chars)) (block_items end table (take (4 * (b - k)) (drop (4 * k) chars))) last
    ∙ ap (λ us. us ++ (block_items end table (take (4 * (b - k)) (drop (4 * k) chars)) ++ last)) items
    ∙ ap (λ us. map Some new ++ (block_items end table (take (4 * (b - k)) us) ++ last)) (sym is)

-- a bad block among the first ones
pub bad_blocks : (end : End) (table chars : List ℕ) (last : List (Option ℕ)) (b k n : ℕ) → k ≤ b → 4 * b ≤ length chars → 3 * k ≤ n
    → all_in table (take (4 * k) chars) ≡ false → Contains (take n (block_items end table (take (4 * b) chars) ++ last)) None
bad_blocks end table chars last b k n le fits few bad =
    let len : length (take (4 * k) chars) ≡ 4 * k = length-take-le (4 * k) chars (omega arith) in
    let l = length-block_items end table (take (4 * k) chars) (omega arith) in
    let e : block_items end table (take (4 * b) chars) ++ last
    ≡ block_items end table (take (4 * k) chars) ++ (block_items end table (take (4 * (b - k)) (drop (4 * k) chars)) ++ last)
    = ap (λ us. us ++ last) (split_blocks end table chars b k le fits)
    ∙ append_assoc (block_items end table (take (4 * k) chars)) (block_items end table (take (4 * (b - k)) (drop (4 * k) chars))) last in
    rw e (bad_within (block_items end table (take (4 * k) chars)) (block_items end table (take (4 * (b - k)) (drop (4 * k) chars)) ++ last) n (omega arith)
    (block_items-bad end table (take (4 * k) chars) (omega arith) bad))

-- the first item of a bad block
pub bad_first : (end : End) (table chars : List ℕ) (last : List (Option ℕ)) (b : ℕ) → 0 < b → 4 * b ≤ length chars → all_in table (take 4 chars) ≡ false
    → Contains (take 1 (block_items end table (take (4 * b) chars) ++ last)) None
unfolding block_items
bad_first end table [] last b some fits bad = absurd (omega arith)
bad_first end table (p ∷ []) last b some fits bad = absurd (omega arith)
bad_first end table (p ∷ q ∷ []) last b some fits bad = absurd (omega arith)
bad_first end table (p ∷ q ∷ r ∷ []) last b some fits bad = absurd (omega arith)
bad_first end table (p ∷ q ∷ r ∷ s ∷ chars) last b some fits bad =
    let e : 4 * b ≡ suc (suc (suc (suc (4 * b - 4)))) = omega arith in
    rw (e, bad) (0, omega arith, refl)

-- how many items are left
pub length-left : (end : End) (table few chars last : List ℕ) (b : ℕ) → 4 * b ≤ length chars
    → length (map {A = ℕ} {B = Option ℕ} Some few ++ (block_items end table (take (4 * b) chars) ++ map Some last)) ≡ length few + (3 * b + length last)
length-left end table few chars last b fits =
    let len : length (take (4 * b) chars) ≡ 4 * b = length-take-le (4 * b) chars fits in
    let blocks = length-block_items end table (take (4 * b) chars) (omega arith) in
    let l1 = length-append (map {A = ℕ} {B = Option ℕ} Some few) (block_items end table (take (4 * b) chars) ++ map Some last) in
    let l2 = length-append (block_items end table (take (4 * b) chars)) (map {A = ℕ} {B = Option ℕ} Some last) in
    let m1 = length-map_some few in
    let m2 = length-map_some last in
    omega arith

-- nothing but a last block is left
pub last_few : (end : End) (table chars none empty last : List ℕ) (b : ℕ) → b ≡ 0 → none ≡ [] → empty ≡ []
    → map Some last ++ (block_items end table (take (4 * b) chars) ++ map Some empty) ≡ map Some none
    ++ (block_items end table (take (4 * b) chars) ++ map Some last)
unfolding block_items
last_few end table chars none empty last b is nil gone = rw (is, nil, gone) (append-nil (map Some last))

-- ---- runs of blocks

-- characters that stand in front
pub record Front (chars text behind : List ℕ) (n : ℕ) : Type 0 where
  pub rest : behind ≡ drop n chars
  pub first : take n chars ≡ text

pub in_front : (chars text behind : List ℕ) (n : ℕ) → chars ≡ text ++ behind → length text ≡ n → Front chars text behind n
in_front chars text behind n is len = record {
  rest = sym (drop_at text behind n len) ∙ ap (drop n) (sym is);
  first = ap (take n) is ∙ take_at text behind n len;
}

-- the bytes of blocks in front of what stood there
pub blocks_front : (end : End) (table text chars out rest : List ℕ) (k : ℕ) → length text ≡ 4 * k → out ≡ bytes_of_blocks end table text ++ rest
    → take (4 * k) chars ≡ text
    → take (3 * k) out ≡ bytes_of_blocks end table (take (4 * k) chars)
blocks_front end table text chars out rest k len is same =
    let l = length-bytes_of_blocks end table text (omega arith) in
    ap (take (3 * k)) is ∙ take_at (bytes_of_blocks end table text) rest (3 * k) (omega arith) ∙ ap (bytes_of_blocks end table) (sym same)

-- the bytes of further blocks
pub blocks_more : (end : End) (table chars out new : List ℕ) (done count n : ℕ) → 4 * done ≤ length chars → n ≡ length out → 3 * done ≤ length out
    → take (3 * done) out ≡ bytes_of_blocks end table (take (4 * done) chars)
    → take (3 * count) new ≡ bytes_of_blocks end table (take (4 * count) (drop (4 * done) chars))
    → take (3 * (done + count)) (put_mid (3 * done) (n - 3 * done) out new) ≡ bytes_of_blocks end table (take (4 * (done + count)) chars)
blocks_more end table chars out new done count n fits len room was more =
    let front : length (take (3 * done) out) ≡ 3 * done = length-take-le (3 * done) out room in
    let e : 3 * (done + count) ≡ 3 * done + 3 * count = omega arith in
    let put : put_mid (3 * done) (n - 3 * done) out new ≡ take (3 * done) out ++ new = ap (λ m. put_mid (3 * done) (m - 3 * done) out new) len
    ∙ put_back (3 * done) out new in
    ap (take (3 * (done + count))) put ∙ rw e (take_plus (3 * done) (3 * count) (take (3 * done) out ++ new)
    ∙ ap (λ us. us ++ take (3 * count) (drop (3 * done) (take (3 * done) out ++ new))) (take_at (take (3 * done) out) new (3 * done) front)
    ∙ ap (λ us. take (3 * done) out ++ take (3 * count) us) (drop_at (take (3 * done) out) new (3 * done) front)
    ∙ ap (λ us. us ++ take (3 * count) new) was ∙ ap (λ us. bytes_of_blocks end table (take (4 * done) chars) ++ us) more
    ∙ sym (blocks_plus end table done count chars fits))
