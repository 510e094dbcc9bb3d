-- Something is said of what `Debug` writes, whatever the key is.
use Rattle.std.proofs.Common.{ℕ, List, [], ◌∷◌, length, Bool, true, false, Option, Some, None, refl, if◌then◌else◌}
use Rattle.std.specs.Fmt.{◌++?◌, debug_items, debug_option, decimal, comma_space}
use Rattle.std.specs.Prelude.{IsSome, nat_lt, codes}
use Rattle.der_core.specs.ObjectIdentifier.{oid_content}
use Rattle.der_core.specs.Oid.{oid_text}
use Rattle.spki.specs.declared.algorithm.AlgorithmIdentifier.{AlgorithmIdentifier}
use Rattle.pkcs8.specs.Shown.{bits_debug, bytes_debug, encoding_debug, key_debug, version_debug}
use Rattle.pkcs8.specs.Version.{version_of}

append_some : (a b : Option (List ℕ)) → IsSome a → IsSome b → IsSome (a ++? b)
append_some None b h k = h
append_some (Some x) None h k = k
append_some (Some x) (Some y) h k = refl

items_some : (lead xs : List ℕ) → IsSome (debug_items (λ (n : ℕ). Some (decimal n)) lead xs)
items_some lead [] = refl
items_some lead (x ∷ xs) = append_some (Some lead) _ refl (append_some (Some (decimal x)) _ refl (items_some comma_space xs))

bytes_some : (xs : List ℕ) → IsSome (bytes_debug xs)
bytes_some xs = append_some (Some (91 ∷ [])) _ refl (append_some (debug_items (λ (n : ℕ). Some (decimal n)) [] xs) _ (items_some [] xs) refl)

encoding_some_at : (long : Bool) (xs : List ℕ) → IsSome (if long then Some (codes "..") else bytes_debug xs)
encoding_some_at true xs = refl
encoding_some_at false xs = bytes_some xs

encoding_some : (xs : List ℕ) → IsSome (encoding_debug xs)
encoding_some xs = encoding_some_at (nat_lt 128 (length xs)) xs

bits_some : (content : List ℕ) → IsSome (bits_debug content)
bits_some [] = refl
bits_some (unused_bits ∷ octets) =
    append_some (Some (codes "BitString { unused_bits: ")) _ refl
    (append_some (Some (decimal unused_bits)) _ refl (append_some (Some (codes ", octets: ")) _ refl
    (append_some (bytes_debug octets) _ (bytes_some octets) refl)))

optional_some : {X : Type 0} (text : X → Option (List ℕ)) → ((x : X) → IsSome (text x)) → (o : Option X) → IsSome (debug_option text o)
optional_some text law None = refl
optional_some text law (Some x) = append_some (Some (codes "Some")) _ refl (append_some (Some (40 ∷ [])) _ refl (append_some (text x) _ (law x) refl))

pub key_some : {P B : Type 0} (encoding : P → List ℕ) (bits : B → List ℕ) (algorithm : AlgorithmIdentifier P) (public : Option B)
    → IsSome (key_debug encoding bits algorithm public)
key_some encoding bits algorithm public =
    append_some (Some (codes "PrivateKeyInfo { version: ")) _ refl (append_some (Some (version_debug (version_of public))) _ refl
    (append_some (Some (codes ", algorithm: AlgorithmIdentifier { oid: ")) _ refl (append_some (Some (oid_text (oid_content algorithm.oid))) _ refl
    (append_some (Some (codes ", parameters: ")) _ refl (append_some (debug_option (λ p. encoding_debug (encoding p)) algorithm.parameters) _
    (optional_some _ (λ p. encoding_some (encoding p)) algorithm.parameters)
    (append_some (Some (codes " }, public_key: ")) _ refl (append_some (debug_option (λ k. bits_debug (bits k)) public) _
    (optional_some _ (λ k. bits_some (bits k)) public) refl)))))))
