-- A set of bundles, as the map from trust domains to bundles.
use Rattle.std.specs.Prelude.{◌≡◌, ◌<◌, ℕ, List, length, take, fold, Bool, Option}
use Rattle.std.specs.declared.alloc.Global.{Global}
use Rattle.std.specs.declared.sync.Arc.{Arc}
use Rattle.std.specs.Cmp.{IsEquivalence}
use Rattle.spiffe_bundle.specs.Entries.{Entries, with_entry, find_entry, stored_entries, entries_eq, entries_equiv}
use Rattle.spiffe_bundle.specs.JwtBundle.{Bundle, bundle_eq, bundle_equiv}

abbrev pub Bundles : Type 0
Bundles = Entries Bundle

abbrev pub stored_bundles : List (List ℕ × Arc Bundle Global) → Bundles
stored_bundles es = stored_entries (λ domain. domain) es

-- the set with the bundle for its trust domain, in place of what was there
abbrev pub with_bundle : Bundles → Bundle → Bundles
with_bundle found b = with_entry found b.trust_domain b

abbrev pub find_bundle : List ℕ → Bundles → Option Bundle
find_bundle domain found = find_entry domain found

-- the set after each bundle in turn, so that of equal trust domains the last is kept
abbrev pub with_bundles : Bundles → List Bundle → Bundles
with_bundles found bundles = fold with_bundle found bundles

-- only the first of the bundles, and not all of them, were added
abbrev pub IsPartlyExtended : Bundles → List Bundle → Bundles → Type 0
IsPartlyExtended old bundles new = (n : ℕ) × (n < length bundles) × (new ≡ with_bundles old (take n bundles))

abbrev pub set_eq : Bundles → Bundles → Bool
set_eq = entries_eq bundle_eq

pub set_equiv : IsEquivalence set_eq
set_equiv = entries_equiv bundle_equiv
