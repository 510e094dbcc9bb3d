-- The value at the front of bytes is one: what is read from an encoding, and what was read is an encoding.
use Rattle.std.proofs.Common.{◌≡◌, ℕ, ◌%◌, ◌^◌, ◌<◌, ◌≤◌, List, [], ◌∷◌, ◌++◌, length, take, drop, true, ltb, Option, Some, None, refl, ap, sym, ◌∙◌, get_or}
use Rattle.std.proofs.Common.{inl, inr, arith, length-append, IfSome, IfNone, option_map}
use Rattle.std.proofs.lemmas.Bool.{lt-ltb, le-ltb, ltb-true, ltb-false, cases_lt, and_parts, and_from}
use Rattle.std.proofs.lemmas.Option.{same_Some, none-some}
use Rattle.std.proofs.lemmas.List.{length-take-le, take-append-drop}
use Rattle.std.proofs.Math.Seq.{take-append_seam, drop-append_seam}
use Rattle.der_core.specs.Der.{IsTag, IsValue, length_bytes, encode}
use Rattle.der_core.specs.Laws.{encode_append, length_encode}
use Rattle.der_core.specs.Header.{read_length, is_tag, content_at, read_value}
use Rattle.der_core.specs.LengthLaws.{IsBytes, IsBytes_tail, Spells, branch, read_length_again, read_length_found, length_bytes_1, length_bytes_2}
use Rattle.der_core.specs.LengthLaws.{length_bytes_3, length_bytes_4, length_bytes_5}

pub header_length : (n : ℕ) → (length (length_bytes n) ≤ 5) × (16777216 ≤ n → length (length_bytes n) ≡ 5)
header_length n =
    elim (cases_lt n 128) [
      | inl s ↦ rw (length_bytes_1 n s) (omega arith, λ h. absurd (omega arith))
      | inr h1 ↦ elim (cases_lt n 256) [
        | inl s ↦ rw (length_bytes_2 n h1 s) (omega arith, λ h. absurd (omega arith))
        | inr h2 ↦ elim (cases_lt n 65536) [
          | inl s ↦ rw (length_bytes_3 n h2 s) (omega arith, λ h. absurd (omega arith))
          | inr h3 ↦ elim (cases_lt n 16777216) [
            | inl s ↦ rw (length_bytes_4 n h3 s) (omega arith, λ h. absurd (omega arith))
            | inr h4 ↦ rw (length_bytes_5 n h4) (omega arith, λ h. refl)
          ]
        ]
      ]
    ]

pub fits_small : (tag : ℕ) (content : List ℕ) → length (encode tag content) < 2 ^ 32 → length content < 4294967290
fits_small tag content h =
    let e = length_encode tag content in
    let l = header_length (length content) in
    elim (cases_lt (length content) 16777216) [
      | inl s ↦ omega arith
      | inr g ↦ let five : length (length_bytes (length content)) ≡ 5 = l.1 g in omega arith
    ]

pub small_fits : (tag : ℕ) (content : List ℕ) → length content < 4294967290 → length (encode tag content) < 2 ^ 32
small_fits tag content h =
    let e = length_encode tag content in
    let l = header_length (length content) in
    omega arith

pub tag_is : (n : ℕ) → IsTag n → is_tag n ≡ true
tag_is n t =
    let a : 0 < n = t.present in
    let b : n % 32 < 31 = t.single in
    and_from (ltb 0 n) (ltb (n % 32) 31) (lt-ltb 0 n a) (lt-ltb (n % 32) 31 b)

pub is_tag_tag : (n : ℕ) → n < 256 → is_tag n ≡ true → IsTag n
is_tag_tag n h e =
    let p = and_parts (ltb 0 n) (ltb (n % 32) 31) e in
    record { present = ltb-true 0 n p.0; byte = h; single = ltb-true (n % 32) 31 p.1 }

pub read_value_again : (tag : ℕ) (content rest : List ℕ) → IsTag tag → length (encode tag content) < 2 ^ 32 →
    read_value (encode tag content ++ rest) ≡ Some (tag, content, rest)
read_value_again tag content rest t fits =
    let small : length content < 4294967290 = fits_small tag content fits in
    let n : ℕ = length content in
    let w : length content < 2 ^ 32 = omega arith in
    let below : length content ≤ length (content ++ rest) = omega (arith, length-append content rest) in
    rw (
      encode_append tag content rest,
      tag_is tag t,
      read_length_again n (content ++ rest) w,
      lt-ltb n 4294967290 small,
      le-ltb (length (content ++ rest)) n below,
      take-append_seam content rest,
      drop-append_seam content rest,
    ) refl

pub Found : List ℕ → ℕ × List ℕ × List ℕ → Type 0
Found s f = (s ≡ encode f.0 f.1 ++ f.2) × IsTag f.0 × (length (encode f.0 f.1) < 2 ^ 32)

content_found : (tag : ℕ) (after : List ℕ) (l : Option (ℕ × List ℕ)) (f : ℕ × List ℕ × List ℕ) → IsBytes after →
    IsTag tag → read_length after ≡ l → content_at tag l ≡ Some f → Found (tag ∷ after) f
unfolding Found Spells
content_found tag after None f b t e h = cc
content_found tag after (Some l) f b t e h =
    let sp = read_length_found after l b e in
    branch (ltb l.0 4294967290) _ _ _ h
    (λ small h. branch (ltb (length l.1) l.0) _ _ _ h
    (λ _ h. cc)
    (λ enough h.
    let le : l.0 ≤ length l.1 = ltb-false (length l.1) l.0 enough in
    let n : length (take l.0 l.1) ≡ l.0 = length-take-le l.0 l.1 le in
    let lt : l.0 < 4294967290 = ltb-true l.0 4294967290 small in
    let lt' : length (take l.0 l.1) < 4294967290 = omega arith in
    rw (← same_Some _ f h) (
      rw (encode_append tag (take l.0 l.1) (drop l.0 l.1), n, take-append-drop l.0 l.1) (ap (λ (x : List ℕ). tag ∷ x) sp.0),
      t,
      small_fits tag (take l.0 l.1) lt',
    )))
    (λ _ h. cc)

first_small : (a : ℕ) (s : List ℕ) → IsBytes (a ∷ s) → a < 256
unfolding IsBytes
first_small a s b = b 0

pub read_value_found : (s : List ℕ) (f : ℕ × List ℕ × List ℕ) → IsBytes s → read_value s ≡ Some f → Found s f
read_value_found [] f b e = cc
read_value_found (tag ∷ after) f b e =
    branch (is_tag tag) _ _ _ e
    (λ t h. content_found tag after (read_length after) f (IsBytes_tail tag after b) (is_tag_tag tag (first_small tag after b) t) refl h)
    (λ _ h. cc)

-- What a reader found, whose answer is seen by the three functions.
pub found_of : {X : Type 0} (r : Option X) (tag : X → ℕ) (content rest : X → List ℕ) (s : List ℕ) → IsBytes s →
    option_map (λ f. (tag f, content f, rest f)) r ≡ read_value s →
    IfSome r (λ f. s ≡ encode (tag f) (content f) ++ rest f)
unfolding Found
found_of None tag content rest s b e = tt
found_of (Some x) tag content rest s b e = (read_value_found s (tag x, content x, rest x) b (sym e)).0

pub fits_of : {X : Type 0} (r : Option X) (tag : X → ℕ) (content rest : X → List ℕ) (s : List ℕ) → IsBytes s →
    option_map (λ f. (tag f, content f, rest f)) r ≡ read_value s →
    IfSome r (λ f. length (encode (tag f) (content f)) < 2 ^ 32)
unfolding Found
fits_of None tag content rest s b e = tt
fits_of (Some x) tag content rest s b e = (read_value_found s (tag x, content x, rest x) b (sym e)).2

pub none_of : {X : Type 0} (r : Option X) (tag : X → ℕ) (content rest : X → List ℕ) (s : List ℕ) →
    option_map (λ f. (tag f, content f, rest f)) r ≡ read_value s →
    IfNone r ((b after : List ℕ) → IsValue b → s ≡ b ++ after → ⊥)
none_of None tag content rest s e =
    λ b after v is.
    let whole : s ≡ encode v.tag v.content ++ after = rw is (ap (λ (x : List ℕ). x ++ after) v.is) in
    let fits : length (encode v.tag v.content) < 2 ^ 32 = rw (← v.is) v.fits in
    let again = read_value_again v.tag v.content after v.tag_ok fits in
    none-some _ (e ∙ ap read_value whole ∙ again)
none_of (Some x) tag content rest s e = tt

-- An encoding is its header and its content.
pub encode_parts : (tag : ℕ) (content : List ℕ) → encode tag content ≡ (tag ∷ length_bytes (length content)) ++ content
unfolding encode
encode_parts tag content = refl

-- The parts of one value, and what follows it, found twice.
pub record SameValue (tag : ℕ) (content rest : List ℕ) (tag' : ℕ) (content' rest' : List ℕ) : Type 0 where
  pub tags : tag ≡ tag'
  pub contents : content ≡ content'
  pub rests : rest ≡ rest'

-- One encoding at the front of the same bytes as another.
pub same_value : (tag : ℕ) (content rest : List ℕ) (tag' : ℕ) (content' rest' : List ℕ) → IsTag tag →
    length (encode tag content) < 2 ^ 32 → IsTag tag' → length (encode tag' content') < 2 ^ 32 →
    encode tag content ++ rest ≡ encode tag' content' ++ rest' → SameValue tag content rest tag' content' rest'
same_value tag content rest tag' content' rest' t f t' f' e =
    let parts = same_Some _ _ (sym (read_value_again tag content rest t f) ∙ ap read_value e ∙ read_value_again tag' content' rest' t' f') in
    record {
      tags = ap (λ (p : ℕ × List ℕ × List ℕ). p.0) parts;
      contents = ap (λ (p : ℕ × List ℕ × List ℕ). p.1) parts;
      rests = ap (λ (p : ℕ × List ℕ × List ℕ). p.2) parts;
    }

-- Encodings that are the same are those of one tag and one content, also where they are too long to be written.
pub encode_same : (tag tag' : ℕ) (content content' : List ℕ) → length content < 2 ^ 32 → length content' < 2 ^ 32 →
    encode tag content ≡ encode tag' content' → (tag ≡ tag') × (content ≡ content')
unfolding encode
encode_same tag tag' content content' fits fits' e =
    let behind : length_bytes (length content) ++ content ≡ length_bytes (length content') ++ content' = ap (λ (s : List ℕ). drop 1 s) e in
    let parts = same_Some _ _ (sym (read_length_again (length content) content fits) ∙ ap read_length behind
    ∙ read_length_again (length content') content' fits') in
    (ap (λ (s : List ℕ). get_or s 0 0) e, ap (λ (p : ℕ × List ℕ). p.1) parts)

-- Two values that begin the same bytes are one.
pub values_unique : (b x c y : List ℕ) → IsValue b → IsValue c → b ++ x ≡ c ++ y → (b ≡ c) × (x ≡ y)
values_unique b x c y v w e =
    let fits : length (encode v.tag v.content) < 2 ^ 32 = rw (← v.is) v.fits in
    let fits' : length (encode w.tag w.content) < 2 ^ 32 = rw (← w.is) w.fits in
    let left : b ++ x ≡ encode v.tag v.content ++ x = ap (λ (z : List ℕ). z ++ x) v.is in
    let right : c ++ y ≡ encode w.tag w.content ++ y = ap (λ (z : List ℕ). z ++ y) w.is in
    let both : Some (v.tag, v.content, x) ≡ Some (w.tag, w.content, y) =
    sym (read_value_again v.tag v.content x v.tag_ok fits) ∙ ap read_value (sym left ∙ e ∙ right) ∙ read_value_again w.tag w.content y w.tag_ok fits' in
    let parts = same_Some _ _ both in
    (v.is ∙ ap (λ (p : ℕ × List ℕ × List ℕ). encode p.0 p.1) parts ∙ sym w.is, ap (λ (p : ℕ × List ℕ × List ℕ). p.2) parts)
