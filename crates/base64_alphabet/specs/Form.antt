-- What tells the text of a list of bytes: the characters of an alphabet, the end from which its groups are read,
-- and whether a text is filled up with `=` (RFC 4648 sections 3.2 and 4).
use Rattle.std.specs.Prelude.{ℕ, Bool, List}
use Rattle.base64_alphabet.specs.Group.{End}

pub record Form : Type 0 where
  pub end : End
  pub table : List ℕ
  pub padded : Bool
