-- Lists of keys, and the arrays that they are.
use Rattle.std.proofs.Common.{◌≡◌, ◌≤◌, ℕ, ◌+◌, ◌∙◌, List, [], ◌∷◌, ◌++◌, Bool, true, false, cond, not, ◌&&◌, ◌||◌, Option, Some, None, Ok, filter, length}
use Rattle.std.proofs.Common.{map, count_by, is_some, unwrap_or, max, refl, sym, ap, arith, true≢false}
use Rattle.std.proofs.lemmas.List.Sums.{length-filter}
use Rattle.std.specs.List.{list_all, position_from}
use Rattle.serde_json.specs.Data.{Data, Items, no_items, item, depth, items_depth}
use Rattle.serde_json.specs.View.{view, items_of}
use Rattle.serde_json.specs.declared.value.Value.{Value}
use Rattle.serde_json.specs.Written.{has_float, items_have_float}
use Rattle.spiffe_id.specs.Rules.{map_ok, then_ok}
use Rattle.spiffe_bundle.specs.JwtAuthority.{Authority, authority_of, key_id_of, with_key_id}
use Rattle.spiffe_bundle.specs.KeySet.{authorities_of}
use Rattle.bundle_document.specs.Keys.{elements, use_of, is_for_tokens, is_for_x509, is_for_neither, is_jwt_key, is_named, is_unnamed, named_authority}
use Rattle.bundle_document.specs.Reading.{key_of, naming_of, none_unnamed}
use Rattle.bundle_document.specs.declared.key_use.KeyUse.{KeyUse}
use Rattle.bundle_document.specs.declared.key_use.KeyUse.TheVariants.{JwtSvid, X509Svid, Other}

pub elements_of : (ds : List Data) → elements (items_of ds) ≡ ds
elements_of [] = refl
elements_of (d ∷ ds) = ap (λ more. d ∷ more) (elements_of ds)

both : (a b : Bool) → (a && b) ≡ true → (a ≡ true) × (b ≡ true)
both true true e = (refl, refl)
both true false e = absurd (true≢false (sym e))
both false b e = absurd (true≢false (sym e))

pub neither : (a b : Bool) → (a || b) ≡ false → (a ≡ false) × (b ≡ false)
neither true b e = absurd (true≢false e)
neither false b e = (refl, e)

-- ---- what is selected

module _ (p : Data → Bool) where
  all_at : (b : Bool) (d : Data) (ds : List Data) → p d ≡ b → list_all p (filter p ds) ≡ true → list_all p (cond b (d ∷ filter p ds) (filter p ds)) ≡ true
  all_at true d ds is rest = rw is rest
  all_at false d ds is rest = rest

  pub all_selected : (ds : List Data) → list_all p (filter p ds) ≡ true
  all_selected [] = refl
  all_selected (d ∷ ds) = all_at (p d) d ds refl (all_selected ds)

  whole_at : (b : Bool) (d : Data) (ds : List Data) → has_float d ≡ false → items_have_float (items_of (filter p ds)) ≡ false
      → items_have_float (items_of (cond b (d ∷ filter p ds) (filter p ds))) ≡ false
  whole_at true d ds whole rest = rw whole rest
  whole_at false d ds whole rest = rest

  pub whole_selected : (ds : List Data) → items_have_float (items_of ds) ≡ false → items_have_float (items_of (filter p ds)) ≡ false
  whole_selected [] e = refl
  whole_selected (d ∷ ds) e = let w = neither (has_float d) (items_have_float (items_of ds)) e in whole_at (p d) d ds w.0 (whole_selected ds w.1)

  depth_at : (b : Bool) (d : Data) (ds : List Data) → items_depth (items_of (filter p ds)) ≤ items_depth (items_of ds)
      → items_depth (items_of (cond b (d ∷ filter p ds) (filter p ds))) ≤ items_depth (items_of (d ∷ ds))
  depth_at true d ds rest = omega arith
  depth_at false d ds rest = omega arith

  -- what is selected nests no deeper
  pub depth_selected : (ds : List Data) → items_depth (items_of (filter p ds)) ≤ items_depth (items_of ds)
  depth_selected [] = omega arith
  depth_selected (d ∷ ds) = depth_at (p d) d ds (depth_selected ds)

  same_at : (d : Data) (ds : List Data) → p d ≡ true → filter p ds ≡ ds → cond (p d) (d ∷ filter p ds) (filter p ds) ≡ d ∷ ds
  same_at d ds is rest = rw (is, rest)

  -- where all are selected, the selection is all
  pub selected_all : (ds : List Data) → list_all p ds ≡ true → filter p ds ≡ ds
  selected_all [] e = refl
  selected_all (d ∷ ds) e = let w = both (p d) (list_all p ds) e in same_at d ds w.0 (selected_all ds w.1)

-- ---- uses

tokens_alone : (u : KeyUse) → is_for_tokens u ≡ true → (is_for_x509 u ≡ false) × (is_for_neither u ≡ false)
tokens_alone JwtSvid e = (refl, refl)
tokens_alone X509Svid e = absurd (true≢false (sym e))
tokens_alone Other e = absurd (true≢false (sym e))

none_selected : (p : Data → Bool) (d : Data) (ds : List Data) → p d ≡ false → length (filter p ds) ≡ 0 → length (cond (p d) (d ∷ filter p ds) (filter p ds)) ≡ 0
none_selected p d ds is rest = rw is rest

x509_selected : (ds : List Data) → list_all is_jwt_key ds ≡ true → length (filter (λ d. is_for_x509 (use_of d)) ds) ≡ 0
x509_selected [] e = refl
x509_selected (d ∷ ds) e =
    let w = both (is_jwt_key d) (list_all is_jwt_key ds) e in
    none_selected (λ d. is_for_x509 (use_of d)) d ds (tokens_alone (use_of d) w.0).0 (x509_selected ds w.1)

neither_selected : (ds : List Data) → list_all is_jwt_key ds ≡ true → length (filter (λ d. is_for_neither (use_of d)) ds) ≡ 0
neither_selected [] e = refl
neither_selected (d ∷ ds) e =
    let w = both (is_jwt_key d) (list_all is_jwt_key ds) e in
    none_selected (λ d. is_for_neither (use_of d)) d ds (tokens_alone (use_of d) w.0).1 (neither_selected ds w.1)

pub no_x509 : (ds : List Data) → list_all is_jwt_key ds ≡ true → count_by (λ d. is_for_x509 (use_of d)) ds ≡ 0
no_x509 ds e = sym (length-filter (λ d. is_for_x509 (use_of d)) ds) ∙ x509_selected ds e

pub no_neither : (ds : List Data) → list_all is_jwt_key ds ≡ true → count_by (λ d. is_for_neither (use_of d)) ds ≡ 0
no_neither ds e = sym (length-filter (λ d. is_for_neither (use_of d)) ds) ∙ neither_selected ds e

-- ---- names

named_at : (jwt named : Bool) (d : Data) (ds : List Data) (n : ℕ) → is_jwt_key d ≡ jwt → is_named d ≡ named
    → cond (jwt && not named) (Some n) (position_from is_unnamed (n + 1) ds) ≡ None
    → (position_from is_unnamed (n + 1) ds ≡ None → list_all is_named (filter is_jwt_key ds) ≡ true)
    → list_all is_named (cond jwt (d ∷ filter is_jwt_key ds) (filter is_jwt_key ds)) ≡ true
named_at true true d ds n j k e rest = rw k (rest e)
named_at true false d ds n j k e rest = cc
named_at false named d ds n j k e rest = rest e

-- where no key for tokens lacks a key ID, those that are selected have one
pub named_selected : (ds : List Data) (n : ℕ) → position_from is_unnamed n ds ≡ None → list_all is_named (filter is_jwt_key ds) ≡ true
named_selected [] n e = refl
named_selected (d ∷ ds) n e = named_at (is_jwt_key d) (is_named d) d ds n refl refl e (named_selected ds (n + 1))

unnamed_at : (jwt : Bool) (d : Data) (ds : List Data) (n : ℕ) → is_named d ≡ true → position_from is_unnamed (n + 1) ds ≡ None
    → cond (jwt && not (is_named d)) (Some n) (position_from is_unnamed (n + 1) ds) ≡ None
unnamed_at true d ds n k rest = rw k rest
unnamed_at false d ds n k rest = rest

pub none_unnamed_of : (ds : List Data) (n : ℕ) → list_all is_named ds ≡ true → position_from is_unnamed n ds ≡ None
none_unnamed_of [] n e = refl
none_unnamed_of (d ∷ ds) n e = let w = both (is_named d) (list_all is_named ds) e in unnamed_at (is_jwt_key d) d ds n w.0 (none_unnamed_of ds (n + 1) w.1)

authority_at : (o : Option (List ℕ)) (d : Data) → key_id_of d ≡ o → is_some o ≡ true → with_key_id d o ≡ Ok (named_authority d)
authority_at None d is some = absurd (true≢false (sym some))
authority_at (Some k) d is some = rw is

authority_named : (d : Data) → is_named d ≡ true → authority_of d ≡ Ok (named_authority d)
authority_named d e = authority_at (key_id_of d) d refl e

authorities_at : (d : Data) (ds : List Data) → authority_of d ≡ Ok (named_authority d) → authorities_of (items_of ds) ≡ Ok (map named_authority ds)
    → then_ok (authority_of d) (λ a. map_ok (λ more. a ∷ more) (authorities_of (items_of ds))) ≡ Ok (named_authority d ∷ map named_authority ds)
authorities_at d ds is rest = rw (is, rest)

-- keys with key IDs are authorities
pub authorities_named : (ds : List Data) → list_all is_named ds ≡ true → authorities_of (items_of ds) ≡ Ok (map named_authority ds)
authorities_named [] e = refl
authorities_named (d ∷ ds) e = let w = both (is_named d) (list_all is_named ds) e in authorities_at d ds (authority_named d w.0) (authorities_named ds w.1)

-- ---- one more key behind those that are there

module _ (p : Data → Bool) where
  pub all_more : (vs : List Value) (v : Value) → list_all p (map view vs) ≡ true → p (view v) ≡ true → list_all p (map view (vs ++ v ∷ [])) ≡ true
  all_more [] v all one = rw one
  all_more (w ∷ vs) v all one = let b = both (p (view w)) (list_all p (map view vs)) all in rw b.0 (all_more vs v b.1 one)

pub whole_more : (vs : List Value) (v : Value) → items_have_float (items_of (map view vs)) ≡ false → has_float (view v) ≡ false
    → items_have_float (items_of (map view (vs ++ v ∷ []))) ≡ false
whole_more [] v all one = rw one
whole_more (w ∷ vs) v all one = let b = neither (has_float (view w)) (items_have_float (items_of (map view vs))) all in rw b.0 (whole_more vs v b.1 one)

appended : (vs : List Value) (v : Value) (rest : List Data) → map view (vs ++ v ∷ []) ++ rest ≡ map view vs ++ (view v ∷ rest)
appended [] v rest = refl
appended (w ∷ vs) v rest = ap (λ more. view w ∷ more) (appended vs v rest)

pub so_far_more : (vs : List Value) (v : Value) (a : Authority) (rest : List Authority) (total : List Data) → map view vs ++ map key_of (a ∷ rest) ≡ total
    → view v ≡ key_of a
    → map view (vs ++ v ∷ []) ++ map key_of rest ≡ total
so_far_more vs v a rest total so_far is = appended vs v (map key_of rest) ∙ rw is so_far

none_of : (o : Option ℕ) → Ok tt ≡ none_unnamed o → o ≡ None
none_of None e = refl
none_of (Some key) e = cc

pub all_named : (ks : List Data) → Ok tt ≡ naming_of ks → list_all is_named (filter is_jwt_key ks) ≡ true
all_named ks e = named_selected ks 0 (none_of (position_from is_unnamed 0 ks) e)
