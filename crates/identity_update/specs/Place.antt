-- Parts of a document by their places.
use Rattle.std.specs.Prelude.{◌≡◌, ℕ, ◌≤◌, List, length, slice_range}
use Rattle.identity_update.specs.declared.place.Place.{Place}

-- the place lies in the bytes
pub record IsWithin (bytes : List ℕ) (p : Place) : Type 0 where
  pub order : p.start ≤ p.end
  pub inside : p.end ≤ length bytes

-- the bytes at the place
abbrev pub part : List ℕ → Place → List ℕ
part bytes p = slice_range bytes p.start p.end

-- the bytes stand at the place
pub record FoundAt (document : List ℕ) (p : Place) (bytes : List ℕ) : Type 0 where
  pub within : IsWithin document p
  pub is : part document p ≡ bytes
