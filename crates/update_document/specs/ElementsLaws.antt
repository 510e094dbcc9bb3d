-- Laws of lists: bytes are one list at most, and what is read is what is written.
use Rattle.std.proofs.Common.{◌≡◌, ℕ, ◌<◌, ◌^◌, List, [], ◌∷◌, ◌++◌, length, refl, sym, ap, subst, ◌∙◌}
use Rattle.std.specs.List.{flat_map}
use Rattle.der_core.specs.Der.{IsValue, encode}
use Rattle.der_core.specs.Decode.{ReadsTagged-one_value}
use Rattle.der_core.specs.SequenceLaws.{ReadsOne, then_same, front_fits, rest_fits}
use Rattle.der_core.specs.ValueLaws.{same_value}
use Rattle.der_core.specs.Tags.{tag_48}
use Rattle.update_document.specs.Elements.{Elements, ReadsList}
use Rattle.der_core.specs.Readings.{AreReadBack, AreWritten}

abbrev HasByte : List ℕ → Type 0
HasByte [] = ⊥
HasByte (x ∷ xs) = Unit {0}

encoding_has_byte : (tag : ℕ) (content rest : List ℕ) → HasByte (encode tag content ++ rest)
unfolding encode
encoding_has_byte tag content rest = tt

-- What begins with a value is not empty.
pub not_empty : (b rest : List ℕ) → IsValue b → b ++ rest ≡ [] → ⊥
not_empty b rest v e =
    let whole : encode v.tag v.content ++ rest ≡ [] = ap (λ (x : List ℕ). x ++ rest) (sym v.is) ∙ e in
    subst HasByte whole (encoding_has_byte v.tag v.content rest)

-- Bytes are the encodings of one list of values.
pub elements_one : {V : Type 0} (Reads : List ℕ → V → Type 0) → ReadsOne Reads → (vs ws : List V) (bytes : List ℕ) →
    Elements Reads vs bytes → Elements Reads ws bytes → vs ≡ ws
elements_one Reads law [] [] bytes e f = refl
elements_one Reads law [] (w ∷ ws) bytes e f = absurd (not_empty f.front f.rest (law.value f.front w f.reads) (sym f.is ∙ e))
elements_one Reads law (v ∷ vs) [] bytes e f = absurd (not_empty e.front e.rest (law.value e.front v e.reads) (sym e.is ∙ f))
elements_one {V = V} Reads law (v ∷ vs) (w ∷ ws) bytes e f =
    let same = then_same Reads (Elements Reads ws) bytes e.rest v w law.value (record { front = e.front; reads = e.reads; is = e.is }) f in
    let first : v ≡ w = law.one e.front v w e.reads same.reads in
    let with_first : V → List V = λ x. x ∷ vs in
    let with_rest : List V → List V = λ xs. w ∷ xs in
    ap with_first first ∙ ap with_rest (elements_one Reads law vs ws e.rest e.next same.next)

-- Where each value is read exactly from its encoding, the bytes are the encodings.
pub elements_written : {V : Type 0} (Reads : List ℕ → V → Type 0) (encoding : V → List ℕ) →
    AreWritten Reads encoding → (vs : List V) (bytes : List ℕ) → Elements Reads vs bytes →
    bytes ≡ flat_map encoding vs
elements_written Reads encoding law [] bytes e = e
elements_written Reads encoding law (v ∷ vs) bytes e =
    e.is ∙ ap (λ (x : List ℕ). x ++ e.rest) (law e.front v e.reads)
    ∙ ap (λ (x : List ℕ). encoding v ++ x) (elements_written Reads encoding law vs e.rest e.next)

-- And the encodings are read.
pub elements_read : {V : Type 0} (Reads : List ℕ → V → Type 0) (encoding : V → List ℕ) →
    AreReadBack Reads encoding → (vs : List V) → length (flat_map encoding vs) < 2 ^ 32 →
    Elements Reads vs (flat_map encoding vs)
elements_read Reads encoding law [] fits = refl
elements_read Reads encoding law (v ∷ vs) fits = record {
  front = encoding v;
  rest = flat_map encoding vs;
  is = refl;
  reads = law v (front_fits (encoding v) (flat_map encoding vs) fits);
  next = elements_read Reads encoding law vs (rest_fits (encoding v) (flat_map encoding vs) fits);
}

-- A list is one value of the profile, and one list for each of these.
pub list_one : {V : Type 0} (Reads : List ℕ → V → Type 0) → ReadsOne Reads → ReadsOne (ReadsList Reads)
list_one {V = V} Reads law = record {
  value = λ b vs r. ReadsTagged-one_value 48 (λ content (ws : List V). Elements Reads ws content) b vs tag_48 r;
  one = λ b vs ws r s.
      let fits_r : length (encode 48 r.content) < 2 ^ 32 = rw (← r.is) r.fits in
      let fits_s : length (encode 48 s.content) < 2 ^ 32 = rw (← s.is) s.fits in
      let same = same_value 48 r.content [] 48 s.content [] tag_48 fits_r tag_48 fits_s (ap (λ (x : List ℕ). x ++ []) (sym r.is ∙ s.is)) in
      elements_one Reads law vs ws r.content r.has (rw same.contents s.has);
}
