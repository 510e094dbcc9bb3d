-- The canonical text of an id or of a trust domain is no longer than the text that it was read from.
use Rattle.std.proofs.Common.{◌≡◌, ℕ, ◌+◌, ◌≤◌, ◌==◌, subst, Bool, true, false, List, [], ◌∷◌, ◌++◌, length, take, drop, map, codes, nat_eq, Option, Some}
use Rattle.std.proofs.Common.{None, Ok, Err, refl, sym, ap, ◌∙◌, length-append, length-take, length-drop, arith, if◌then◌else◌}
use Rattle.std.proofs.lemmas.List.{length-map}
use Rattle.std.proofs.lemmas.Slice.Eq.{bytes_eq-Decides}
use Rattle.std.proofs.lemmas.List.{take-append-drop}
use Rattle.std.specs.Prelude.{option_map}
use Rattle.std.specs.Char.{to_ascii_lowercase}
use Rattle.std.specs.List.{before_first, position_or_len, starts_with}
use Rattle.spiffe_id.specs.Rules.{then_ok}
use Rattle.spiffe_id.specs.Path.{path_check}
use Rattle.spiffe_id.specs.declared.error.SpiffeIdError.TheVariants.{Empty, WrongScheme}
use Rattle.spiffe_id.specs.Scheme.{after_scheme, if_spiffe_scheme, is_spiffe_scheme, split_first}
use Rattle.spiffe_id.specs.SpiffeId.{Id, canonical, id_of, id_parts, id_text, parts_after, path_from}
use Rattle.spiffe_id.specs.TrustDomain.{checked_trust_domain, contains_text, is_slash, trust_domain_check, trust_domain_of, written_trust_domain}
use Rattle.identity_update.proofs.Inverses.{else_inverse, if_inverse, map_inverse, then_inverse}

starts_long : (text separator : List ℕ) → starts_with nat_eq text separator ≡ true → length separator ≤ length text
starts_long text separator e =
    let same : separator ≡ take (length separator) text = (bytes_eq-Decides separator (take (length separator) text)).0 e in
    let long = ap length same in
    let short = length-take {A = ℕ} (length separator) text in
    omega arith

-- what a separator parts is no longer than the whole
record Parted (text separator : List ℕ) (p : List ℕ × List ℕ) : Type 0 where
  fits : length p.0 + length separator + length p.1 ≤ length text

behind : (b : ℕ) (bs separator : List ℕ) (p : List ℕ × List ℕ) (o : Option (List ℕ × List ℕ)) → ((q : List ℕ × List ℕ) → o ≡ Some q → Parted bs separator q)
    → option_map (λ q. (b ∷ q.0, q.1)) o ≡ Some p → Parted (b ∷ bs) separator p
behind b bs separator p None more e = cc
behind b bs separator p (Some q) more e =
    let same : (b ∷ q.0, q.1) ≡ p = cc in
    let m = more q refl in
    let fits = m.fits in
    subst (Parted (b ∷ bs) separator) same (record { fits = omega arith })

split_here : (b : ℕ) (bs separator : List ℕ) (t : Bool) (p : List ℕ × List ℕ) → starts_with nat_eq (b ∷ bs) separator ≡ t
    → ((q : List ℕ × List ℕ) → split_first separator bs ≡ Some q → Parted bs separator q)
    → (if t then Some ([], drop (length separator) (b ∷ bs)) else option_map (λ q. (b ∷ q.0, q.1)) (split_first separator bs)) ≡ Some p
    → Parted (b ∷ bs) separator p
split_here b bs separator true p is more e =
    let same : ([], drop (length separator) (b ∷ bs)) ≡ p = cc in
    let long = starts_long (b ∷ bs) separator is in
    let rest = length-drop {A = ℕ} (length separator) (b ∷ bs) in
    subst (Parted (b ∷ bs) separator) same (record { fits = omega arith })
split_here b bs separator false p is more e = behind b bs separator p (split_first separator bs) more e

split_fits : (text separator : List ℕ) (p : List ℕ × List ℕ) → split_first separator text ≡ Some p → Parted text separator p
split_fits [] separator p e = cc
split_fits (b ∷ bs) separator p e = split_here b bs separator (starts_with nat_eq (b ∷ bs) separator) p refl (λ q. split_fits bs separator q) e

scheme_at : (text rest : List ℕ) (o : Option (List ℕ × List ℕ)) → ((q : List ℕ × List ℕ) → o ≡ Some q → Parted text (codes "://") q)
    → if_spiffe_scheme o ≡ Ok rest → length rest + 9 ≤ length text
scheme_at text rest None parted e = cc
scheme_at text rest (Some q) parted e =
    let passed = if_inverse (is_spiffe_scheme q.0) (Ok q.1) WrongScheme rest e in
    let gives = passed.gives in
    let same : q.1 ≡ rest = cc in
    let name : map to_ascii_lowercase q.0 ≡ codes "spiffe" = (bytes_eq-Decides (map to_ascii_lowercase q.0) (codes "spiffe")).0 passed.test in
    let six : length q.0 ≡ 6 = sym (length-map q.0 to_ascii_lowercase) ∙ ap length name in
    let fits = (parted q refl).fits in
    let rest_is = ap length same in
    omega arith

scheme_fits : (text rest : List ℕ) → after_scheme text ≡ Ok rest → length rest + 9 ≤ length text
unfolding after_scheme
scheme_fits text rest e = scheme_at text rest (split_first (codes "://") text) (λ q. split_fits text (codes "://") q) e

parts_fit : (rest : List ℕ) (p : List ℕ × List ℕ) → parts_after rest ≡ Ok p → length p.0 + length p.1 ≡ length rest
parts_fit rest p e =
    let first = then_inverse (trust_domain_check (before_first is_slash rest))
    (λ _. then_ok (path_check (path_from rest)) (λ _. Ok (before_first is_slash rest, path_from rest))) p e in
    let second = then_inverse (path_check (path_from rest)) (λ _. Ok (before_first is_slash rest, path_from rest)) p first.gives in
    let gives = second.gives in
    let same : (before_first is_slash rest, path_from rest) ≡ p = cc in
    let n : ℕ = position_or_len is_slash rest in
    let whole : length (take n rest ++ drop n rest) ≡ length rest = ap length (take-append-drop n rest) in
    let sum : length (take n rest) + length (drop n rest) ≡ length rest = sym (length-append (take n rest) (drop n rest)) ∙ whole in
    subst (λ (x : List ℕ × List ℕ). length x.0 + length x.1 ≡ length rest) same sum

pub id_fits : (text : List ℕ) (id : Id) → id_of text ≡ Ok id → length (id_text id) ≤ length text
unfolding id_of id_parts
id_fits text id e =
    let m = map_inverse (id_parts text) canonical id e in
    let p = m.value in
    let some = else_inverse (length text == 0) Empty (then_ok (after_scheme text) parts_after) p m.is in
    let behind = then_inverse (after_scheme text) parts_after p some in
    let scheme = scheme_fits text behind.value behind.is in
    let parts = parts_fit behind.value p behind.gives in
    let domain = length-map p.0 to_ascii_lowercase in
    let first = length-append (codes "spiffe://") (map to_ascii_lowercase p.0) in
    let all = length-append (codes "spiffe://" ++ map to_ascii_lowercase p.0) p.1 in
    let fits : length (id_text (canonical p)) ≤ length text = omega arith in
    subst (λ (i : Id). length (id_text i) ≤ length text) m.same fits

checked_same : (text w : List ℕ) → checked_trust_domain text ≡ Ok w → text ≡ w
checked_same text w e = let f = then_inverse (trust_domain_check text) (λ _. Ok text) w e in let gives = f.gives in cc

written_fits : (has has_half : Bool) (text w : List ℕ) → (if has then then_ok (after_scheme text)
    (λ rest. checked_trust_domain (before_first is_slash rest)) else (if has_half then Err WrongScheme else checked_trust_domain text)) ≡ Ok w
    → length w ≤ length text
written_fits true half text w e =
    let f = then_inverse (after_scheme text) (λ rest. checked_trust_domain (before_first is_slash rest)) w e in
    let scheme = scheme_fits text f.value f.is in
    let same = ap length (checked_same (before_first is_slash f.value) w f.gives) in
    let short = length-take {A = ℕ} (position_or_len is_slash f.value) f.value in
    omega arith
written_fits false true text w e = cc
written_fits false false text w e = let same = ap length (checked_same text w e) in omega arith

pub domain_fits : (text domain : List ℕ) → trust_domain_of text ≡ Ok domain → length domain ≤ length text
unfolding trust_domain_of written_trust_domain
domain_fits text domain e =
    let m = map_inverse (written_trust_domain text) (map to_ascii_lowercase) domain e in
    let fits = written_fits (contains_text (codes "://") text) (contains_text (codes ":/") text) text m.value m.is in
    let same = sym (length-map m.value to_ascii_lowercase) ∙ ap length m.same in
    omega arith
