-- The bytes of a text.
use Rattle.std.specs.Prelude.{ℕ, List}
use Rattle.der_small.specs.declared.utf8.Utf8Ref.{Utf8Ref}

abbrev pub text_ref : Utf8Ref → List ℕ
text_ref v = v.text.now
