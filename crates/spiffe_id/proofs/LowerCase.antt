-- Names in lower case.
use Rattle.std.proofs.Common.{◌≡◌, ◌<◌, ◌≤◌, Ok, ℕ, Bool, true, List, [], ◌∷◌, map, refl, arith, IsUtf8, ◌&&◌, length}
use Rattle.std.specs.List.{list_all}
use Rattle.std.specs.Char.{to_ascii_lowercase}
use Rattle.std.specs.Str.{IsAscii}
use Rattle.std.proofs.lemmas.Bool.Decides.{nat_tests}
use Rattle.std.proofs.lemmas.Str.{IsUtf8-from_ascii}
use Rattle.std.proofs.lemmas.List.{length-map}
use Rattle.std.proofs.lemmas.Str.Ascii.{IsAscii-nil, IsAscii-cons, lowercase-lowercase}
use Rattle.spiffe_id.specs.TrustDomain.{trust_domain_check, is_name_byte, IsTrustDomain}

both : (a b : Bool) → (a && b) ≡ true → (a ≡ true) × (b ≡ true)
both a b e = (grind arith, grind arith)

pub all_of : (b : ℕ) (bs : List ℕ) → list_all is_name_byte (b ∷ bs) ≡ true → (is_name_byte b ≡ true) × (list_all is_name_byte bs ≡ true)
all_of b bs e = both _ _ e

lower_small : (b : ℕ) → is_name_byte b ≡ true → to_ascii_lowercase b < 128
lower_small b h = grind (arith, nat_tests)

lower_name : (b : ℕ) → is_name_byte b ≡ true → is_name_byte (to_ascii_lowercase b) ≡ true
lower_name b h = grind (arith, nat_tests)

lower_ascii : (bs : List ℕ) → list_all is_name_byte bs ≡ true → IsAscii (map to_ascii_lowercase bs)
lower_ascii [] h = IsAscii-nil
lower_ascii (b ∷ bs) h = let p = all_of b bs h in IsAscii-cons _ _ (lower_small b p.0) (lower_ascii bs p.1)

pub lower_utf8 : (bs : List ℕ) → list_all is_name_byte bs ≡ true → IsUtf8 (map to_ascii_lowercase bs)
lower_utf8 bs h = IsUtf8-from_ascii _ (lower_ascii bs h)

lower_names : (bs : List ℕ) → list_all is_name_byte bs ≡ true → list_all is_name_byte (map to_ascii_lowercase bs) ≡ true
lower_names [] h = refl
lower_names (b ∷ bs) h = let p = all_of b bs h in rw (lower_name b p.0, lower_names bs p.1)

lower_twice : (bs : List ℕ) → map to_ascii_lowercase (map to_ascii_lowercase bs) ≡ map to_ascii_lowercase bs
lower_twice [] = refl
lower_twice (b ∷ bs) = rw (lowercase-lowercase b, lower_twice bs)

checked : (raw : List ℕ) → trust_domain_check raw ≡ Ok tt → (0 < length raw) × (length raw ≤ 255) × (list_all is_name_byte raw ≡ true)
checked raw h = (grind (arith, nat_tests), grind (arith, nat_tests), grind (arith, nat_tests))

pub IsTrustDomain-lower : (raw : List ℕ) → trust_domain_check raw ≡ Ok tt → IsTrustDomain (map to_ascii_lowercase raw)
IsTrustDomain-lower raw h =
    let c = checked raw h in
    record { some = rw length-map c.0; short = rw length-map c.1; characters = lower_names raw c.2; lower = lower_twice raw }
