-- The values of key sets and of documents.
use Rattle.std.proofs.Common.{◌≡◌, ◌≤◌, ◌⊎◌, inl, inr, ℕ, ◌+◌, ◌∙◌, List, [], ◌∷◌, ◌++◌, append_assoc, Bool, true, false, Option, Some, None, Result, Ok, Err}
use Rattle.std.proofs.Common.{Bor, Vec, Global, option_map, option_and_then, codes, filter, map, get_or, max, Ordering, Less, Equal, Greater, refl, sym, ap}
use Rattle.std.proofs.Common.{subst, arith}
use Rattle.std.specs.List.{list_all, join_with_byte}
use Rattle.std.specs.Ordering.{match_ordering, nat_cmp}
use Rattle.std.specs.Cmp.Lexicographic.{slice_cmp}
use Rattle.serde_json.specs.Data.{Data, null, boolean, number, string, array, object, unsigned, Items, no_items, item, Members, no_members, member, put, depth}
use Rattle.serde_json.specs.Data.{items_depth, members_depth}
use Rattle.serde_json.specs.Find.{get, get_member, as_array, as_str}
use Rattle.serde_json.specs.View.{view, items_of, items_view}
use Rattle.serde_json.specs.declared.value.Value.{Value}
use Rattle.serde_json.specs.Read.{max_depth}
use Rattle.serde_json.proofs.OnLiterals.{serde_json_on_literals}
use Rattle.serde_json.specs.Written.{has_float, items_have_float, members_have_float, compact_text, items_text}
use Rattle.serde_json.proofs.Views.{get_member-put, get_member-put_other}
use Rattle.spiffe_id.specs.Rules.{map_ok, then_ok}
use Rattle.spiffe_json.specs.Json.{whole_json}
use Rattle.spiffe_bundle.specs.KeySet.{keys_array, keys_of, key_set_of, by_key_id, authorities_of}
use Rattle.spiffe_bundle.specs.JwtAuthority.{IsJwk, key_id_of}
use Rattle.spiffe_bundle.proofs.KeySets.{array_nests, keys_whole}
use Rattle.bundle_document.specs.Keys.{elements, key_set_value, is_jwt_key, is_named, named_authority}
use Rattle.bundle_document.specs.Document.{IsDocument, keys_listed, with_number, numbered, plain_document, key_set_text, document_text, keys_text, number_text}
use Rattle.bundle_document.specs.declared.error.DocumentError.{DocumentError}
use Rattle.bundle_document.specs.Reading.{items_or, items_in, keys_in, naming_of, document_with, document_in, document_of, for_tokens}
use Rattle.bundle_document.proofs.KeyLemmas.{elements_of, authorities_named, depth_selected, neither, none_unnamed_of, no_x509, no_neither, selected_all}

-- the keys of a key set are those that it was made of
pub listed : (ks : List Data) → keys_listed (key_set_value ks) ≡ ks
listed ks = elements_of ks

items_of_elements : (items : Items) → items_of (elements items) ≡ items
items_of_elements no_items = refl
items_of_elements (item d ds) = ap (item d) (items_of_elements ds)

-- ---- the keys of a value that was read

pub record KeysOf (d : Data) (ks : List Data) : Type 0 where
  pub items : Items
  pub found : option_and_then as_array (get (codes "keys") d) ≡ Some items
  pub are : items_of ks ≡ items

keys_at : (d : Data) (o : Option Items) (ks : List Data) → option_and_then as_array (get (codes "keys") d) ≡ o → map_ok elements (items_or o) ≡ Ok ks
    → KeysOf d ks
keys_at d None ks is e = cc
keys_at d (Some items) ks is e =
    let same : elements items ≡ ks = cc in
    record { items = items; found = is; are = ap items_of (sym same) ∙ items_of_elements items }

pub keys_are : (d : Data) (ks : List Data) → keys_in d ≡ Ok ks → KeysOf d ks
keys_are d ks e = keys_at d (option_and_then as_array (get (codes "keys") d)) ks refl e

-- the elements of a stored array
pub keys_seen : (r : Result (Bor (Vec Value Global)) DocumentError) (d : Data) → map_ok (λ v. items_view v.now.items) r ≡ items_in d
    → map_ok (λ v. map view v.now.items) r ≡ keys_in d
keys_seen (Ok v) d e = ap Ok (sym (elements_of (map view v.now.items))) ∙ ap (map_ok elements) e
keys_seen (Err broken) d e = ap (map_ok elements) e

pub keys_are_whole : (d : Data) (ks : List Data) → keys_in d ≡ Ok ks → has_float d ≡ false → items_have_float (items_of ks) ≡ false
keys_are_whole d ks e whole = let k = keys_are d ks e in rw k.are (keys_whole d k.items (ap keys_array k.found) whole)

pub keys_nest_within : (d : Data) (ks : List Data) → keys_in d ≡ Ok ks → items_depth (items_of ks) + 2 ≤ depth d
keys_nest_within d ks e = let k = keys_are d ks e in rw k.are (array_nests (codes "keys") d k.items k.found)

-- what is selected of them nests no deeper than JSON is read
pub readable_selected : (d : Data) (ks sel : List Data) → keys_in d ≡ Ok ks → sel ≡ filter is_jwt_key ks → depth d ≤ max_depth
    → depth (key_set_value sel) ≤ max_depth
readable_selected d ks sel e is nests = rw is (omega (arith, depth_selected is_jwt_key ks, keys_nest_within d ks e, nests))

-- ---- a key with its use

put_whole_at : (o : Ordering) (k l : List ℕ) (d e : Data) (ms : Members) → has_float d ≡ false → has_float e ≡ false → members_have_float ms ≡ false
    → members_have_float (put k d ms) ≡ false
    → members_have_float (match_ordering o (member k d (member l e ms)) (member l d ms) (member l e (put k d ms))) ≡ false
put_whole_at Less k l d e ms one other rest later = rw (one, other, rest)
put_whole_at Equal k l d e ms one other rest later = rw (one, rest)
put_whole_at Greater k l d e ms one other rest later = rw (other, later)

put_whole : (k : List ℕ) (d : Data) (ms : Members) → has_float d ≡ false → members_have_float ms ≡ false → members_have_float (put k d ms) ≡ false
put_whole k d no_members one rest = rw one
put_whole k d (member l e ms) one rest =
    let w = neither (has_float e) (members_have_float ms) rest in put_whole_at _ k l d e ms one w.0 w.1 (put_whole k d ms one w.1)

kid_is_no_use : codes "kid" ≡ codes "use" → ⊥
kid_is_no_use e = let first : 107 ≡ 117 = ap (λ l. get_or l 0 0) e in omega (arith, first)

-- a key that was given its use is for tokens, has its key ID still, and no number that isn't whole
pub record IsTokenKey (d : Data) : Type 0 where
  pub jwt : is_jwt_key d ≡ true
  pub named : is_named d ≡ true
  pub whole : has_float d ≡ false

pub token_key : (d : Data) (kid : List ℕ) → key_id_of d ≡ Some kid → has_float d ≡ false → IsTokenKey (for_tokens d)
token_key (object ms) kid is whole = record {
  jwt = rw (get_member-put (codes "use") (string (codes "jwt-svid")) ms) refl;
  named = rw (get_member-put_other (codes "kid") (codes "use") (string (codes "jwt-svid")) ms kid_is_no_use, is) refl;
  whole = put_whole (codes "use") (string (codes "jwt-svid")) ms refl whole;
}
token_key null kid is whole = cc
token_key (boolean b) kid is whole = cc
token_key (number n) kid is whole = cc
token_key (string s) kid is whole = cc
token_key (array ds) kid is whole = cc

-- the key that an authority is given its use in
pub authority_key : (kid json : List ℕ) (d k : Data) → IsJwk kid json → whole_json json ≡ Ok d → has_float d ≡ false → k ≡ for_tokens d → IsTokenKey k
authority_key kid json d k jwk reads whole is =
    let same : jwk.value ≡ d = cc (jwk.reads, reads) in
    subst (λ (x : Data). IsTokenKey x) (sym is) (token_key d kid (subst (λ (x : Data). key_id_of x ≡ Some kid) same jwk.named) whole)

-- ---- texts

items_joined : (ds : List Data) → items_text false (items_of ds) ≡ join_with_byte 44 (map (λ a. a.jwk_json) (map named_authority ds)) ++ codes "]"
items_joined [] = refl
items_joined (d ∷ []) = refl
items_joined (d ∷ e ∷ ds) = rw (append_assoc, ← items_joined (e ∷ ds)) refl

-- the compact JSON of a key set's value
pub key_set_compact : (ks : List Data) → compact_text (key_set_value ks) ≡ key_set_text (map named_authority ks)
unfolding serde_json_on_literals
key_set_compact ks = rw (items_joined ks) (simp append_assoc)

pub numbered_compact : (sequence hint : Option ℕ) (a b : ℕ) (ks : List Data)
    → compact_text (numbered sequence hint (key_set_value ks)) ≡ document_text (plain_document sequence hint a b ks)
unfolding serde_json_on_literals
numbered_compact None None a b ks = rw (items_joined ks) (simp append_assoc)
numbered_compact None (Some h) a b ks = rw (items_joined ks) (simp append_assoc)
numbered_compact (Some s) None a b ks = rw (items_joined ks) (simp append_assoc)
numbered_compact (Some s) (Some h) a b ks = rw (items_joined ks) (simp append_assoc)

-- ---- what a document keeps

pub document_kept : (k : Data) (ks : List Data) (json : List ℕ) → k ≡ key_set_value ks → items_have_float (items_of ks) ≡ false
    → list_all is_jwt_key ks ≡ true → list_all is_named ks ≡ true
    → json ≡ compact_text k → (depth k ≤ max_depth → whole_json json ≡ Ok k) → (k ≡ key_set_value (keys_listed k)) × IsDocument (keys_listed k) json
document_kept k ks json is whole jwt named text reads =
    let same : keys_listed k ≡ ks = ap keys_listed is ∙ listed ks in
    let kept : IsDocument ks json = record {
      whole = whole;
      jwt = jwt;
      named = named;
      text = text ∙ ap compact_text is ∙ key_set_compact ks;
      reads = subst (λ (x : Data). depth x ≤ max_depth → whole_json json ≡ Ok x) is reads;
    } in
    (is ∙ ap key_set_value (sym same), subst (λ (x : List Data). IsDocument x json) (sym same) kept)

-- its key set is that of its keys
pub key_set_accepted : (ks : List Data) (json : List ℕ) → IsDocument ks json → depth (key_set_value ks) ≤ max_depth
    → key_set_of json ≡ Ok (by_key_id (map named_authority ks))
unfolding key_set_of
key_set_accepted ks json h nests = rw (h.reads nests, authorities_named ks h.named)

-- ---- documents as they are written

-- what is read of named keys for tokens
named_document : (sequence hint : Option ℕ) (ks : List Data) → list_all is_jwt_key ks ≡ true → list_all is_named ks ≡ true
    → then_ok (naming_of ks) (λ _. Ok (document_with sequence hint ks)) ≡ Ok (plain_document sequence hint 0 0 ks)
named_document sequence hint ks jwt named = rw (none_unnamed_of ks 0 named, no_x509 ks jwt, no_neither ks jwt, selected_all is_jwt_key ks jwt)

pub read_again : (sequence hint : Option ℕ) (ks : List Data) → list_all is_jwt_key ks ≡ true → list_all is_named ks ≡ true
    → document_in (numbered sequence hint (key_set_value ks)) ≡ Ok (plain_document sequence hint 0 0 ks)
read_again None None ks jwt named = rw (elements_of ks) (named_document None None ks jwt named)
read_again None (Some h) ks jwt named = rw (elements_of ks) (named_document None (Some h) ks jwt named)
read_again (Some s) None ks jwt named = rw (elements_of ks) (named_document (Some s) None ks jwt named)
read_again (Some s) (Some h) ks jwt named = rw (elements_of ks) (named_document (Some s) (Some h) ks jwt named)

pub numbered_whole : (sequence hint : Option ℕ) (ks : List Data) → items_have_float (items_of ks) ≡ false
    → has_float (numbered sequence hint (key_set_value ks)) ≡ false
numbered_whole None None ks whole = rw whole
numbered_whole None (Some h) ks whole = rw whole
numbered_whole (Some s) None ks whole = rw whole
numbered_whole (Some s) (Some h) ks whole = rw whole

pub numbered_depth : (sequence hint : Option ℕ) (ks : List Data) → depth (numbered sequence hint (key_set_value ks)) ≤ depth (key_set_value ks)
numbered_depth None None ks = omega arith
numbered_depth None (Some h) ks = omega arith
numbered_depth (Some s) None ks = omega arith
numbered_depth (Some s) (Some h) ks = omega arith

-- what was written of a document reads as that document
pub written_again : (sequence hint : Option ℕ) (ks : List Data) (v : Data) (jwks json : List ℕ) → IsDocument ks jwks
    → v ≡ numbered sequence hint (key_set_value ks)
    → (depth v ≤ max_depth → whole_json json ≡ Ok v) → depth (key_set_value ks) ≤ max_depth → document_of json ≡ Ok (plain_document sequence hint 0 0 ks)
unfolding document_of
written_again sequence hint ks v jwks json h is reads nests =
    let within : depth v ≤ max_depth = rw is (omega (arith, numbered_depth sequence hint ks, nests)) in
    rw (reads within, is) (read_again sequence hint ks h.jwt h.named)
