-- An algorithm and the encoding of its parameters.
use Rattle.std.specs.Prelude.{◌≡◌, ℕ, ◌<◌, ◌≤◌, ◌^◌, List, length, Option, option_map, IfSome, IsSomeAnd, Result, Ok, Err}
use Rattle.der_core.specs.Any.{plain_any, der_of}
use Rattle.der_core.specs.ObjectIdentifier.{oid_content}
use Rattle.der_core.specs.declared.any.Any.{Any}
use Rattle.der_core.specs.declared.error.Error.TheVariants as der
use Rattle.spki.specs.declared.algorithm.AlgorithmIdentifier.{AlgorithmIdentifier}
use Rattle.spki.specs.declared.error.Error.{Error}
use Rattle.spki.specs.declared.error.Error.TheVariants as error

pub record Identifier : Type 0 where
  pub oid : List ℕ
  pub parameters : Option (List ℕ)

-- What an identifier says, over what is written of its parameters.
abbrev pub identifier_of : {P : Type 0} → (P → List ℕ) → AlgorithmIdentifier P → Identifier
identifier_of encoding v = record { oid = oid_content v.oid; parameters = option_map encoding v.parameters }

-- What making an owned identifier of it answers: that identifier, or that its parameters are too long, or that memory is wanted.
abbrev pub OwnedIdentifier : Identifier → Result (AlgorithmIdentifier Any) Error → Type 0
OwnedIdentifier i (Ok v) = (identifier_of (λ p. der_of (plain_any p)) v ≡ i) × IfSome i.parameters (λ bytes. length bytes < 2 ^ 32)
OwnedIdentifier i (Err error.OutOfMemory) = Unit {0}
OwnedIdentifier i (Err (error.Asn1 der.Overlength)) = IsSomeAnd i.parameters (λ bytes. 2 ^ 32 ≤ length bytes)
OwnedIdentifier i (Err _) = ⊥
