-- The keys of a bundle document (SPIFFE Trust Domain and Bundle, section 4.2).
use Rattle.std.specs.Prelude.{ℕ, nat_eq, List, [], ◌∷◌, Bool, true, false, not, ◌&&◌, Option, Some, None, is_some, unwrap_or, option_and_then, codes}
use Rattle.std.specs.Prelude.{if◌then◌else◌}
use Rattle.std.specs.Cmp.Lexicographic.{pointwise}
use Rattle.serde_json.specs.Data.{Data, Items, no_items, item, array, object, member, no_members}
use Rattle.serde_json.specs.Find.{get, as_str}
use Rattle.serde_json.specs.View.{items_of}
use Rattle.serde_json.specs.Written.{compact_text}
use Rattle.spiffe_bundle.specs.JwtAuthority.{Authority, key_id_of}
use Rattle.bundle_document.specs.declared.key_use.KeyUse.{KeyUse}
use Rattle.bundle_document.specs.declared.key_use.KeyUse.TheVariants.{JwtSvid, X509Svid, Other}

-- the use that this text names
abbrev pub use_named : List ℕ → KeyUse
use_named text = if pointwise nat_eq text (codes "jwt-svid") then JwtSvid else (if pointwise nat_eq text (codes "x509-svid") then X509Svid else Other)

abbrev pub use_or_other : Option (List ℕ) → KeyUse
use_or_other None = Other
use_or_other (Some text) = use_named text

-- what an element is for, by its text `use`
abbrev pub use_of : Data → KeyUse
use_of d = use_or_other (option_and_then as_str (get (codes "use") d))

abbrev pub is_for_tokens : KeyUse → Bool
is_for_tokens JwtSvid = true
is_for_tokens X509Svid = false
is_for_tokens Other = false

abbrev pub is_for_x509 : KeyUse → Bool
is_for_x509 JwtSvid = false
is_for_x509 X509Svid = true
is_for_x509 Other = false

abbrev pub is_for_neither : KeyUse → Bool
is_for_neither JwtSvid = false
is_for_neither X509Svid = false
is_for_neither Other = true

abbrev pub is_jwt_key : Data → Bool
is_jwt_key d = is_for_tokens (use_of d)

-- the element has a key ID, by which a token can name it
abbrev pub is_named : Data → Bool
is_named d = is_some (key_id_of d)

-- a key for tokens that no token can name
abbrev pub is_unnamed : Data → Bool
is_unnamed d = is_jwt_key d && not (is_named d)

-- the elements of an array
abbrev pub elements : Items → List Data
elements no_items = []
elements (item d ds) = d ∷ elements ds

-- the value of a key set (RFC 7517, section 5) of these keys
abbrev pub key_set_value : List Data → Data
key_set_value keys = object (member (codes "keys") (array (items_of keys)) no_members)

-- the authority that a key is
abbrev pub named_authority : Data → Authority
named_authority d = record { key_id = unwrap_or (key_id_of d) []; jwk_json = compact_text d }
