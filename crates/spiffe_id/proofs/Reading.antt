-- An id's text reads as that id, and a domain's as that domain.
use Rattle.std.proofs.Common.{◌≡◌, ℕ, true, false, List, [], ◌∷◌, ◌++◌, length, take, drop, Ok, None, refl, ap, arith, codes, nat_eq}
use Rattle.std.specs.List.{list_all, position_or_len, before_first}
use Rattle.std.proofs.lemmas.Bool.Decides.{nat_tests}
use Rattle.spiffe_id.specs.Scheme.{after_scheme, split_first}
use Rattle.spiffe_id.specs.TrustDomain.{IsTrustDomain, is_name_byte, is_slash, trust_domain_check, written_trust_domain, trust_domain_of}
use Rattle.spiffe_id.specs.Path.{path_check, IsPath}
use Rattle.spiffe_id.specs.SpiffeId.{Id, parts_after, id_parts, id_of, id_text}
use Rattle.spiffe_id.proofs.LowerCase.{all_of}

scheme_off : (rest : List ℕ) → after_scheme (codes "spiffe://" ++ rest) ≡ Ok rest
unfolding after_scheme
scheme_off rest = refl

pub no_slash : (b : ℕ) → is_name_byte b ≡ true → is_slash b ≡ false
no_slash b h = grind (arith, nat_tests)

no_colon : (b : ℕ) → is_name_byte b ≡ true → nat_eq 58 b ≡ false
no_colon b h = grind (arith, nat_tests)

len_before : (d p : List ℕ) → list_all is_name_byte d ≡ true → IsPath p → position_or_len is_slash (d ++ p) ≡ length d
len_before [] [] h path = refl
len_before [] (b ∷ bs) h path = rw path.0
len_before (b ∷ d) p h path = let a = all_of b d h in rw (no_slash b a.0, len_before d p a.1 path) (omega arith)

domain_first : (d p : List ℕ) → take (length d) (d ++ p) ≡ d
domain_first [] p = refl
domain_first (b ∷ d) p = ap (λ xs. b ∷ xs) (domain_first d p)

path_last : (d p : List ℕ) → drop (length d) (d ++ p) ≡ p
path_last [] p = refl
path_last (b ∷ d) p = path_last d p

valid_domain : (d : List ℕ) → IsTrustDomain d → trust_domain_check d ≡ Ok tt
valid_domain d h = grind (arith, nat_tests, h.some, h.short, h.characters)

valid_path : (p : List ℕ) → IsPath p → path_check p ≡ Ok tt
valid_path [] h = refl
valid_path (b ∷ bs) h = h.1

pub parts_of_valid : (d p : List ℕ) → IsTrustDomain d → IsPath p → parts_after (d ++ p) ≡ Ok (d, p)
parts_of_valid d p dom path = rw (len_before d p dom.characters path, domain_first, path_last, valid_domain d dom, valid_path p path)

len_alone : (d : List ℕ) → list_all is_name_byte d ≡ true → position_or_len is_slash d ≡ length d
len_alone [] h = refl
len_alone (b ∷ d) h = let a = all_of b d h in rw (no_slash b a.0, len_alone d a.1) (omega arith)

take_all : (d : List ℕ) → take (length d) d ≡ d
take_all [] = refl
take_all (b ∷ d) = ap (λ xs. b ∷ xs) (take_all d)

before_end : (d : List ℕ) → list_all is_name_byte d ≡ true → before_first is_slash d ≡ d
before_end d h = rw (len_alone d h, take_all d)

id_parts_after : (rest : List ℕ) → id_parts (codes "spiffe://" ++ rest) ≡ parts_after rest
unfolding id_parts
id_parts_after rest = rw (scheme_off rest) (grind (arith, nat_tests))

-- the text of an id reads as that id
pub id_of-id_text : (v : Id) → IsTrustDomain v.trust_domain → IsPath v.path → id_of (id_text v) ≡ Ok v
unfolding id_of
id_of-id_text v dom path = rw (id_parts_after (v.trust_domain ++ v.path), parts_of_valid v.trust_domain v.path dom path, dom.lower)

-- two ids of one text are one id
pub same_text-same_id : (v w : Id) → IsTrustDomain v.trust_domain → IsPath v.path → IsTrustDomain w.trust_domain → IsPath w.path → id_text v ≡ id_text w → v ≡ w
same_text-same_id v w dv pv dw pw e =
    let first = id_of-id_text v dv pv in
    let second : id_of (id_text v) ≡ Ok w = rw e (id_of-id_text w dw pw) in
    cc

lacks_colon : (more d : List ℕ) → list_all is_name_byte d ≡ true → split_first (58 ∷ more) d ≡ None
lacks_colon more [] h = refl
lacks_colon more (b ∷ d) h = let a = all_of b d h in rw (no_colon b a.0, lacks_colon more d a.1)

-- a domain reads as itself
pub trust_domain_of-name : (d : List ℕ) → IsTrustDomain d → trust_domain_of d ≡ Ok d
unfolding trust_domain_of written_trust_domain
trust_domain_of-name d dom = rw (lacks_colon (47 ∷ 47 ∷ []) d dom.characters, lacks_colon (47 ∷ []) d dom.characters, valid_domain d dom, dom.lower)

-- and so does its id
pub trust_domain_of-id_string : (d : List ℕ) → IsTrustDomain d → trust_domain_of (codes "spiffe://" ++ d) ≡ Ok d
unfolding trust_domain_of written_trust_domain
trust_domain_of-id_string d dom = rw (scheme_off d, before_end d dom.characters, valid_domain d dom, dom.lower)
