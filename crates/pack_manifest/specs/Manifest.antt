-- Manifests: the identities and bundles of an update, and the files that hold their keys, as a JSON text (RFC 8259) names them.
use Rattle.std.specs.Prelude.{◌≡◌, ℕ, ◌+◌, ◌==◌, ◌&&◌, ◌||◌, nat_eq, Bool, false, List, [], ◌∷◌, Option, Some, None, option_map, option_and_then, Result, Ok}
use Rattle.std.specs.Prelude.{Err, codes, if◌then◌else◌}
use Rattle.std.specs.Option.{ok_or}
use Rattle.std.specs.Cmp.Lexicographic.{pointwise}
use Rattle.serde_json.specs.Data.{Data, Items, no_items, item, Members, no_members, member}
use Rattle.serde_json.specs.Find.{get, as_str, as_array, as_object}
use Rattle.spiffe_json.specs.Json.{whole_json}
use Rattle.spiffe_json.specs.declared.error.JsonError.{JsonError}
use Rattle.spiffe_json.specs.declared.error.JsonError.TheVariants as json
use Rattle.spiffe_token.specs.Members.{Member, members_of}
use Rattle.pack_manifest.specs.declared.error.ManifestError.{ManifestError}
use Rattle.pack_manifest.specs.declared.error.ManifestError.TheVariants.{Syntax, Number, Shape}
use Rattle.pack_manifest.specs.declared.error.ReadError.{ReadError}
use Rattle.pack_manifest.specs.declared.error.ReadError.TheVariants as read

-- an entry: its SPIFFE ID, the path of its private key, and the path of its public key where that has a file
pub record NamedEntry : Type 0 where
  pub id : List ℕ
  pub key : List ℕ
  pub public_key : Option (List ℕ)

-- a bundle: its trust domain, and the path of its key set
pub record NamedBundle : Type 0 where
  pub domain : List ℕ
  pub jwks : List ℕ

pub record Manifest : Type 0 where
  pub entries : List NamedEntry
  pub bundles : List NamedBundle

abbrev pub members_count : Members → ℕ
members_count no_members = 0
members_count (member name d ms) = members_count ms + 1

abbrev pub are_as_many : ℕ → Option Members → Bool
are_as_many n None = false
are_as_many n (Some ms) = members_count ms == n

-- an object of so many members: a value has each name once
abbrev pub has_members : ℕ → Data → Bool
has_members n d = are_as_many n (as_object d)

-- the text under a name
abbrev pub text_at : List ℕ → Data → Option (List ℕ)
text_at name d = option_and_then as_str (get name d)

-- a member that is absent, or a text; any other is none
abbrev pub optional_text : Option Data → Option (Option (List ℕ))
optional_text None = Some None
optional_text (Some d) = option_map (λ text. Some text) (as_str d)

-- how many members an entry has
abbrev pub entry_members : Option (List ℕ) → ℕ
entry_members None = 2
entry_members (Some path) = 3

abbrev pub with_key : Data → List ℕ → List ℕ → Option NamedEntry
with_key d id key =
    option_and_then (λ public_key. if has_members (entry_members public_key) d then Some (record { id = id; key = key; public_key = public_key }) else None)
    (optional_text (get (codes "public") d))

abbrev pub with_id : Data → List ℕ → Option NamedEntry
with_id d id = option_and_then (with_key d id) (text_at (codes "key") d)

-- an object of a text `id`, a text `key` and maybe a text `public`, and no other members
abbrev pub entry_in : Data → Option NamedEntry
entry_in d = option_and_then (with_id d) (text_at (codes "id") d)

abbrev pub with_domain : Data → List ℕ → Option NamedBundle
with_domain d domain =
    option_and_then (λ jwks. if has_members 2 d then Some (record { domain = domain; jwks = jwks }) else None) (text_at (codes "jwks") d)

-- an object of a text `domain` and a text `jwks`, and no other members
abbrev pub bundle_in : Data → Option NamedBundle
bundle_in d = option_and_then (with_domain d) (text_at (codes "domain") d)

abbrev pub entries_in : Items → Option (List NamedEntry)
entries_in no_items = Some []
entries_in (item d ds) = option_and_then (λ e. option_map (λ es. e ∷ es) (entries_in ds)) (entry_in d)

abbrev pub bundles_in : Items → Option (List NamedBundle)
bundles_in no_items = Some []
bundles_in (item d ds) = option_and_then (λ b. option_map (λ bs. b ∷ bs) (bundles_in ds)) (bundle_in d)

abbrev pub array_at : List ℕ → Data → Option Items
array_at name d = option_and_then as_array (get name d)

abbrev pub are_both : List ℕ → List ℕ → Bool
are_both one other =
    (pointwise nat_eq one (codes "entries") && pointwise nat_eq other (codes "bundles"))
    || (pointwise nat_eq one (codes "bundles") && pointwise nat_eq other (codes "entries"))

-- the members of the text are `entries` and `bundles`, each once
abbrev pub has_both : Option (List Member) → Bool
has_both (Some (one ∷ other ∷ [])) = are_both one.name other.name
has_both _ = false

abbrev pub with_entries : Data → List NamedEntry → Option Manifest
with_entries d entries =
    option_map (λ bundles. record { entries = entries; bundles = bundles }) (option_and_then bundles_in (array_at (codes "bundles") d))

abbrev pub manifest_value : Data → Option Manifest
manifest_value d = option_and_then (with_entries d) (option_and_then entries_in (array_at (codes "entries") d))

-- an object of an array `entries` and an array `bundles`, each of them once in the text, and no other members
abbrev pub manifest_in : Option (List Member) → Data → Option Manifest
manifest_in members d = if has_both members then manifest_value d else None

abbrev pub manifest_error : JsonError → ManifestError
manifest_error json.Syntax = Syntax
manifest_error json.Number = Number
manifest_error json.Keys = Shape
manifest_error json.Shape = Shape

abbrev pub value_check : Result Data JsonError → Result Data ManifestError
value_check (Ok d) = Ok d
value_check (Err broken) = Err (manifest_error broken)

-- the JSON value of a manifest's text
abbrev pub json_check : List ℕ → Result Data ManifestError
json_check text = value_check (whole_json text)

-- the manifest that the value of this text is
abbrev pub shape_check : List ℕ → Data → Result Manifest ManifestError
shape_check text d = ok_or (manifest_in (members_of text) d) Shape

-- the error is the rule that `expected` names, or want of memory, which is free
abbrev pub IsRefusal : {T : Type 0} → Result T ManifestError → ReadError → Type 0
IsRefusal expected (read.Manifest broken) = expected ≡ Err broken
IsRefusal expected read.OutOfMemory = Unit {0}
