-- The canonical text of an id that was read is read as that id, and the name of a trust domain that was read as that trust domain.
use Rattle.std.proofs.Common.{◌≡◌, ◌<◌, ◌==◌, ◌||◌, Bool, true, false, cond, List, [], ◌∷◌, ◌++◌, ℕ, nat_eq, map, length, codes, Result, Ok, Err, refl, ap}
use Rattle.std.proofs.Common.{subst, ◌∙◌, arith, lit<, if◌then◌else◌}
use Rattle.std.proofs.lemmas.Bool.Decides.{nat_tests}
use Rattle.std.proofs.lemmas.Str.{IsUtf8-append, IsUtf8-from_ascii}
use Rattle.std.proofs.lemmas.Str.Ascii.{IsAscii-cons, IsAscii-nil}
use Rattle.std.specs.Char.{to_ascii_lowercase}
use Rattle.std.specs.Cmp.Lexicographic.{pointwise}
use Rattle.std.specs.List.{AllByRecursion, before_first, list_all, onto_first, slice_split}
use Rattle.std.specs.Str.{IsAscii, IsUtf8}
use Rattle.spiffe_id.specs.Rules.{then_ok}
use Rattle.spiffe_id.specs.Path.{IsPath, path_check, path_segments_check, segment_check}
use Rattle.spiffe_id.specs.declared.error.SpiffeIdError.{SpiffeIdError}
use Rattle.spiffe_id.specs.declared.error.SpiffeIdError.TheVariants.{BadPathSegmentChar, DotSegment, Empty, EmptySegment, TrailingSlash, WrongScheme}
use Rattle.spiffe_id.specs.Scheme.{after_scheme}
use Rattle.spiffe_id.specs.SpiffeId.{Id, canonical, id_of, id_parts, id_text, parts_after, path_from}
use Rattle.spiffe_id.specs.TrustDomain.{IsTrustDomain, checked_trust_domain, contains_text, is_name_byte, is_slash, trust_domain_check, trust_domain_of}
use Rattle.spiffe_id.specs.TrustDomain.{written_trust_domain}
use Rattle.spiffe_id.proofs.LowerCase.{IsTrustDomain-lower, all_of, lower_utf8}
use Rattle.spiffe_id.proofs.PathSegments.{path_from_is}
use Rattle.spiffe_id.proofs.Reading.{id_of-id_text, trust_domain_of-name}
use Rattle.identity_update.proofs.Inverses.{else_inverse, if_inverse, map_inverse, then_inverse}

-- what was read of the text of an id: its parts are those of an id
record Read (id : Id) : Type 0 where
  domain : IsTrustDomain id.trust_domain
  path : IsPath id.path

id_read : (text : List ℕ) (id : Id) → id_of text ≡ Ok id → Read id
unfolding id_of id_parts
id_read text id e =
    let m = map_inverse (id_parts text) canonical id e in
    let p = m.value in
    let some = else_inverse (length text == 0) Empty (then_ok (after_scheme text) parts_after) p m.is in
    let behind = then_inverse (after_scheme text) parts_after p some in
    let rest = behind.value in
    let first = then_inverse (trust_domain_check (before_first is_slash rest))
    (λ _. then_ok (path_check (path_from rest)) (λ _. Ok (before_first is_slash rest, path_from rest))) p behind.gives in
    let second = then_inverse (path_check (path_from rest)) (λ _. Ok (before_first is_slash rest, path_from rest)) p first.gives in
    let gives = second.gives in
    let same : (before_first is_slash rest, path_from rest) ≡ p = cc in
    subst Read (ap canonical same ∙ m.same) (record { domain = IsTrustDomain-lower (before_first is_slash rest) first.is; path = path_from_is rest second.is })

pub id_again : (text : List ℕ) (id : Id) → id_of text ≡ Ok id → id_of (id_text id) ≡ Ok id
id_again text id e = let read = id_read text id e in id_of-id_text id read.domain read.path

-- the bytes of a path are ASCII
name_small : (b : ℕ) → is_name_byte b ≡ true → b < 128
name_small b h = grind (arith, nat_tests)

slash_small : (b : ℕ) → is_slash b ≡ true → b < 128
slash_small b h = grind (arith, nat_tests)

names_ascii : (bs : List ℕ) → list_all is_name_byte bs ≡ true → IsAscii bs
names_ascii [] h = IsAscii-nil
names_ascii (b ∷ bs) h = let p = all_of b bs h in IsAscii-cons b bs (name_small b p.0) (names_ascii bs p.1)

segment_names : (if_empty : SpiffeIdError) (s : List ℕ) → segment_check if_empty s ≡ Ok tt → list_all is_name_byte s ≡ true
segment_names if_empty s e =
    let dots : Bool = pointwise nat_eq s (codes ".") || pointwise nat_eq s (codes "..") in
    let names : Result (Unit {0}) SpiffeIdError = if list_all is_name_byte s then Ok tt else Err BadPathSegmentChar in
    let some = else_inverse (length s == 0) if_empty (if dots then Err DotSegment else names) tt e in
    let no_dots = else_inverse dots DotSegment names tt some in
    (if_inverse (list_all is_name_byte s) (Ok tt) BadPathSegmentChar tt no_dots).test

abbrev AreNames : List (List ℕ) → Type 0
AreNames parts = AllByRecursion (λ s. list_all is_name_byte s ≡ true) parts

segments_names : (parts : List (List ℕ)) → path_segments_check parts ≡ Ok tt → AreNames parts
segments_names [] e = tt
segments_names (s ∷ []) e = (segment_names TrailingSlash s e, tt)
segments_names (s ∷ t ∷ more) e =
    let first = then_inverse (segment_check EmptySegment s) (λ _. path_segments_check (t ∷ more)) tt e in
    (segment_names EmptySegment s first.is, segments_names (t ∷ more) first.gives)

onto_ascii : (b : ℕ) (bs : List ℕ) (parts : List (List ℕ)) → (AreNames parts → IsAscii bs) → AreNames (onto_first b parts) → IsAscii (b ∷ bs)
onto_ascii b bs [] more h = let p = all_of b [] h.0 in IsAscii-cons b bs (name_small b p.0) (more tt)
onto_ascii b bs (s ∷ parts) more h = let p = all_of b s h.0 in IsAscii-cons b bs (name_small b p.0) (more (p.1, h.1))

split_ascii : (b : ℕ) (bs : List ℕ) (slash : Bool) → is_slash b ≡ slash → (AreNames (slice_split is_slash bs) → IsAscii bs)
    → AreNames (cond slash ([] ∷ slice_split is_slash bs) (onto_first b (slice_split is_slash bs))) → IsAscii (b ∷ bs)
split_ascii b bs true is more h = IsAscii-cons b bs (slash_small b is) (more h.1)
split_ascii b bs false is more h = onto_ascii b bs (slice_split is_slash bs) more h

segments_ascii : (bs : List ℕ) → AreNames (slice_split is_slash bs) → IsAscii bs
segments_ascii [] h = IsAscii-nil
segments_ascii (b ∷ bs) h = split_ascii b bs (is_slash b) refl (segments_ascii bs) h

path_ascii : (path : List ℕ) → IsPath path → IsAscii path
path_ascii [] h = IsAscii-nil
path_ascii (b ∷ bs) h = let at = h.0 in IsAscii-cons b bs (omega arith) (segments_ascii bs (segments_names (slice_split is_slash bs) h.1))

scheme_ascii : IsAscii (codes "spiffe://")
scheme_ascii =
    IsAscii-cons 115 (codes "piffe://") (lit< tt) (IsAscii-cons 112 (codes "iffe://") (lit< tt)
    (IsAscii-cons 105 (codes "ffe://") (lit< tt) (IsAscii-cons 102 (codes "fe://") (lit< tt)
    (IsAscii-cons 102 (codes "e://") (lit< tt) (IsAscii-cons 101 (codes "://") (lit< tt)
    (IsAscii-cons 58 (codes "//") (lit< tt) (IsAscii-cons 47 (codes "/") (lit< tt) (IsAscii-cons 47 [] (lit< tt) IsAscii-nil))))))))

-- the text of an id is UTF-8
pub id_utf8 : (id : Id) → id_of (id_text id) ≡ Ok id → IsUtf8 (id_text id)
id_utf8 id e =
    let read = id_read (id_text id) id e in
    IsUtf8-append (codes "spiffe://" ++ id.trust_domain) id.path
    (IsUtf8-append (codes "spiffe://") id.trust_domain (IsUtf8-from_ascii (codes "spiffe://") scheme_ascii)
    (subst IsUtf8 read.domain.lower (lower_utf8 id.trust_domain read.domain.characters)))
    (IsUtf8-from_ascii id.path (path_ascii id.path read.path))

checked_valid : (text w : List ℕ) → checked_trust_domain text ≡ Ok w → trust_domain_check w ≡ Ok tt
checked_valid text w e =
    let f = then_inverse (trust_domain_check text) (λ _. Ok text) w e in
    let gives = f.gives in
    let same : text ≡ w = cc in
    subst (λ (x : List ℕ). trust_domain_check x ≡ Ok tt) same f.is

written_valid : (has has_half : Bool) (text w : List ℕ) → (if has then then_ok (after_scheme text)
    (λ rest. checked_trust_domain (before_first is_slash rest)) else (if has_half then Err WrongScheme else checked_trust_domain text)) ≡ Ok w
    → trust_domain_check w ≡ Ok tt
written_valid true half text w e =
    let f = then_inverse (after_scheme text) (λ rest. checked_trust_domain (before_first is_slash rest)) w e in
    checked_valid (before_first is_slash f.value) w f.gives
written_valid false true text w e = cc
written_valid false false text w e = checked_valid text w e

domain_valid : (text domain : List ℕ) → trust_domain_of text ≡ Ok domain → IsTrustDomain domain
unfolding trust_domain_of written_trust_domain
domain_valid text domain e =
    let m = map_inverse (written_trust_domain text) (map to_ascii_lowercase) domain e in
    subst IsTrustDomain m.same (IsTrustDomain-lower m.value (written_valid (contains_text (codes "://") text) (contains_text (codes ":/") text) text m.value
    m.is))

pub domain_again : (text domain : List ℕ) → trust_domain_of text ≡ Ok domain → trust_domain_of domain ≡ Ok domain
domain_again text domain e = trust_domain_of-name domain (domain_valid text domain e)

pub domain_utf8 : (domain : List ℕ) → trust_domain_of domain ≡ Ok domain → IsUtf8 domain
domain_utf8 domain e =
    let valid = domain_valid domain domain e in
    subst IsUtf8 valid.lower (lower_utf8 domain valid.characters)
