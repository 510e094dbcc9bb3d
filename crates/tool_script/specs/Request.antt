-- Requests as they stand in a script.
use Rattle.std.specs.Prelude.{◌≡◌, ◌≢◌, ℕ, ◌+◌, ◌<◌, ◌≤◌, List, [], ◌∷◌, ◌++◌, length, slice_index, codes, decimal, Ok}
use Rattle.std.specs.Str.{IsUtf8}
use Rattle.spiffe_id.specs.TrustDomain.{trust_domain_of}

-- an update with its text, a query for the default identity, or one for the keys of a trust domain by a name of it
pub data PlainRequest : Type 0 where
  Update : (text : List ℕ) → PlainRequest
  Svid : PlainRequest
  Bundle : (name domain : List ℕ) → PlainRequest

-- its line
abbrev pub first_line : PlainRequest → List ℕ
first_line (Update text) = codes "update " ++ decimal (length text)
first_line Svid = codes "svid"
first_line (Bundle name domain) = codes "bundle " ++ name

-- what stands behind the end of its line
abbrev pub behind_line : PlainRequest → List ℕ
behind_line (Update text) = text ++ 10 ∷ []
behind_line Svid = []
behind_line (Bundle name domain) = []

-- how many bytes the text of an update has
abbrev pub text_size : PlainRequest → ℕ
text_size (Update text) = length text
text_size Svid = 0
text_size (Bundle name domain) = 0

-- its bytes in a script
abbrev pub spelled : PlainRequest → List ℕ
spelled request = first_line request ++ 10 ∷ behind_line request

-- the bytes are the UTF-8 of a text that names this trust domain (SPIFFE-ID, section 2.1)
abbrev pub Names : List ℕ → List ℕ → Type 0
Names name domain = IsUtf8 name × (trust_domain_of name ≡ Ok domain)

-- none of the first n bytes is a line's end
pub record NoEnd (bytes : List ℕ) (n : ℕ) : Type 0 where
  pub none : (k : ℕ) → k < n → k < length bytes → slice_index bytes k ≢ 10

-- an update has at most 2^24 bytes, and a query is one line of at most 4,096 bytes
abbrev pub IsRequest : PlainRequest → Type 0
IsRequest (Update text) = length text ≤ 16777216
IsRequest Svid = Unit {0}
IsRequest (Bundle name domain) = Names name domain × NoEnd name (length name) × (length name + 7 ≤ 4096)
