-- Extension fields, which are looked at and passed over (RFC 5958, 2: the content ends with an extension mark).
use Rattle.std.specs.Prelude.{◌≡◌, ℕ, zero, suc, ◌<◌, ◌≤◌, ◌^◌, List, [], ◌++◌, length}
use Rattle.der_core.specs.Der.{IsTag, IsValue, encode}

-- A field with a tag from A0 to BE that holds exactly one value of any tag, and then what Next says.
pub record Extension (Next : List ℕ → Type 0) (bytes : List ℕ) : Type 0 where
  pub tag : ℕ
  pub content : List ℕ
  pub rest : List ℕ
  pub is : bytes ≡ encode tag content ++ rest
  pub fits : length (encode tag content) < 2 ^ 32
  pub tag_ok : IsTag tag
  pub low : 160 ≤ tag
  pub high : tag ≤ 190
  pub one : IsValue content
  pub next : Next rest

-- So many such fields, and nothing after them.
unfoldable pub Extensions : ℕ → List ℕ → Type 0
Extensions zero = λ bytes. bytes ≡ []
Extensions (suc n) = λ bytes. Extension (Extensions n) bytes

-- Any number of such fields, and nothing after them.
pub record IsExtensions (bytes : List ℕ) : Type 0 where
  pub count : ℕ
  pub are : Extensions count bytes
