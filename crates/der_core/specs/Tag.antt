-- The byte of a tag.
use Rattle.std.specs.Prelude.{ℕ}
use Rattle.der_core.specs.declared.tag.Tag.{Tag}

abbrev pub byte_of : Tag → ℕ
byte_of tag = tag.byte
