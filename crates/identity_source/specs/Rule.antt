-- The rule over the published state: each seat's list is a beginning of the list that is shown.
use Rattle.std.specs.Prelude.{◌≡◌, ℕ, Option, Some, None, List}
use mathlib.Core.Option.{some}
use lib.ListN.{get_elem?}
use Rattle.identity_source.specs.History.{StartsWith}
use Rattle.identity_source.specs.NamedList.{NamedList}

abbrev pub Knows : NamedList → Option NamedList → Type 0
Knows x None = Unit {0}
Knows x (Some h) = (x.name ≡ h.name) × StartsWith x.list h.list

abbrev pub Keeps : NamedList → List (Option NamedList) → Type 0
Keeps x views = (seat : ℕ) (v : Option NamedList) → get_elem? views seat ≡ some v → Knows x v

-- y was seen, or is shown
abbrev pub Sees : Option NamedList → NamedList → NamedList → Option NamedList → Type 0
Sees v x y w = (w ≡ Some y) × Knows y v
