-- What stands next in the bytes that are left.
use Rattle.std.specs.Prelude.{◌≡◌, ℕ, List, [], ◌∷◌, Option, Some, None}
use Rattle.der_core.specs.Der.{IsTag}
use Rattle.der_core.specs.Tag.{byte_of}
use Rattle.der_core.specs.declared.tag.Tag.{Tag}

-- The tag of the next byte, which is none where nothing is left or the byte is no tag of the profile.
abbrev pub NextTag : List ℕ → Option Tag → Type 0
NextTag [] (Some tag) = ⊥
NextTag [] None = Unit {0}
NextTag (byte ∷ rest) (Some tag) = IsTag byte × (byte_of tag ≡ byte)
NextTag (byte ∷ rest) None = IsTag byte → ⊥
