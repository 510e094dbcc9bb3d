-- What is read is what is written, for values of any tag and of one tag.
use Rattle.std.specs.Prelude.{◌≡◌, ℕ, List, [], ◌∷◌, ◌++◌, ◌==◌, ◌<◌, ◌≤◌, ◌^◌, length, refl, true}
use Rattle.std.proofs.Common.{◌+◌, ap, ◌∙◌, sym, subst, get_or, append_assoc, length-append, arith}
use Rattle.std.proofs.lemmas.Bool.{eq-eqb}
use Rattle.std.proofs.Math.Nat.{le-add_left, lt_of_le_of_lt}
use Rattle.der_core.specs.Der.{length_bytes, encode}
use Rattle.der_core.specs.LengthLaws.{length_bytes_le}
use Rattle.der_core.specs.Decode.{ReadsTagged, ReadsAny}
use Rattle.der_core.specs.Readings.{AreReadBack, AreWritten}

-- The tag, the bytes of the length and the content.
pub length_encode : (tag : ℕ) (content : List ℕ) → length (encode tag content) ≡ 1 + length (length_bytes (length content)) + length content
unfolding encode
length_encode tag content = simp (length-append) (omega arith)

-- An encoding and what follows it, without parentheses.
pub encode_append : (tag : ℕ) (content rest : List ℕ) → encode tag content ++ rest ≡ tag ∷ (length_bytes (length content) ++ (content ++ rest))
unfolding encode
encode_append tag content rest = ap (λ (x : List ℕ). tag ∷ x) (append_assoc (length_bytes (length content)) content rest)

-- A longer content has no shorter encoding, whatever the tags are.
pub encode_le : (t u : ℕ) (a b : List ℕ) → length a ≤ length b → length (encode t a) ≤ length (encode u b)
encode_le t u a b le =
    let bytes = length_bytes_le (length a) (length b) le in
    let whole = length_encode t a in
    let whole' = length_encode u b in
    omega arith

-- A content is no longer than its encoding.
pub content_fits : (tag : ℕ) (content : List ℕ) → length (encode tag content) < 2 ^ 32 → length content < 2 ^ 32
unfolding encode
content_fits tag content fits =
    let header : List ℕ = tag ∷ [] ++ length_bytes (length content) in
    let P : ℕ → Type 0 = λ n. length content ≤ n in
    lt_of_le_of_lt (subst P (sym (length-append header content)) (le-add_left (length content) (length header))) fits

-- It begins with its tag.
encode_head : (tag : ℕ) (rest : List ℕ) (fixed : ℕ) (content : List ℕ) → tag ∷ rest ≡ encode fixed content → (tag == fixed) ≡ true
unfolding encode
encode_head tag rest fixed content e = eq-eqb tag fixed (ap (λ (s : List ℕ). get_or s 0 0) e)

pub any_reads_encoding : (b : List ℕ) (tag : ℕ) (content : List ℕ) → ReadsAny b tag content → b ≡ encode tag content
any_reads_encoding b tag content r = r.is

pub any_encoding_reads : (tag : ℕ) (content : List ℕ) → length (encode tag content) < 2 ^ 32 → ReadsAny (encode tag content) tag content
any_encoding_reads tag content fits = record { is = refl; fits = fits }

pub tagged_reads_encoding : {V : Type 0} (tag : ℕ) (HasContent : List ℕ → V → Type 0) (content : V → List ℕ) →
    AreWritten HasContent content → (b : List ℕ) (v : V) → ReadsTagged tag HasContent b v →
    b ≡ encode tag (content v)
tagged_reads_encoding tag HasContent content law b v r = r.is ∙ ap (λ (x : List ℕ). encode tag x) (law r.content v r.has)

pub tagged_encoding_reads : {V : Type 0} (tag : ℕ) (HasContent : List ℕ → V → Type 0) (content : V → List ℕ) →
    AreReadBack HasContent content → (v : V) → length (encode tag (content v)) < 2 ^ 32 →
    ReadsTagged tag HasContent (encode tag (content v)) v
tagged_encoding_reads tag HasContent content law v fits =
    record { content = content v; has = law v (content_fits tag (content v) fits); is = refl; fits = fits }

pub tagged_begins : {V : Type 0} (fixed : ℕ) (HasContent : List ℕ → V → Type 0) (tag : ℕ) (rest : List ℕ) (v : V) →
    ReadsTagged fixed HasContent (tag ∷ rest) v → (tag == fixed) ≡ true
tagged_begins fixed HasContent tag rest v r = encode_head tag rest fixed r.content r.is
