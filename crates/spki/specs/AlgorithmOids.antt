-- The object identifiers of an algorithm identifier.
use Rattle.std.specs.Prelude.{◌≡◌, ◌≢◌, ◌⊎◌, ℕ, List, [], Option, Some, None, Result, Ok, Err}
use Rattle.der_core.specs.Any.{PlainAny}
use Rattle.der_core.specs.Oid.{IsOidContent}
use Rattle.der_core.specs.ObjectIdentifier.{oid_content}
use Rattle.der_core.specs.Tag.{byte_of}
use Rattle.der_core.specs.Tags.{null_tag, oid_tag}
use Rattle.der_core.specs.declared.oid.ObjectIdentifier.{ObjectIdentifier}
use Rattle.der_core.specs.declared.error.Error.{Error as DerError}
use Rattle.der_core.specs.declared.error.Error.TheVariants as der
use Rattle.spki.specs.declared.error.Error.{Error}
use Rattle.spki.specs.declared.error.Error.TheVariants as error

-- Why a value of any tag is no object identifier: its tag, or else its content.
abbrev pub IsNoOid : PlainAny → DerError → Type 0
IsNoOid v (der.TagUnexpected expected actual) = (v.tag ≢ oid_tag) × (byte_of expected ≡ oid_tag) × (byte_of actual ≡ v.tag)
IsNoOid v der.Malformed = (v.tag ≡ oid_tag) × (IsOidContent v.content → ⊥)
IsNoOid v _ = ⊥

-- The value is an object identifier.
abbrev pub IsOid : PlainAny → ObjectIdentifier → Type 0
IsOid v oid = (v.tag ≡ oid_tag) × (oid_content oid ≡ v.content)

-- The parameters as an object identifier, or why they are none.
abbrev pub ParametersOid : Option PlainAny → Result ObjectIdentifier Error → Type 0
ParametersOid None r = r ≡ Err error.AlgorithmParametersMissing
ParametersOid (Some v) (Ok oid) = IsOid v oid
ParametersOid (Some v) (Err (error.Asn1 e)) = IsNoOid v e
ParametersOid (Some v) (Err _) = ⊥

-- NULL (X.690, 8.8).
abbrev pub IsNull : PlainAny → Type 0
IsNull v = v ≡ record { tag = null_tag; content = [] }

-- What parameters name: nothing where they are NULL, else an object identifier.
abbrev pub Names : PlainAny → Option ObjectIdentifier → Type 0
Names v None = IsNull v
Names v (Some oid) = IsOid v oid

-- The second part of the two identifiers. It is none exactly where the parameters are absent or NULL.
abbrev pub AreOids : Option PlainAny → Result (ObjectIdentifier × Option ObjectIdentifier) DerError → Type 0
AreOids None (Ok oids) = oids.1 ≡ None
AreOids None (Err e) = ⊥
AreOids (Some v) (Ok oids) = Names v oids.1
AreOids (Some v) (Err e) = (IsNull v → ⊥) × IsNoOid v e

-- The parameters as the object identifier that is wanted, or why not.
abbrev pub WantedParameters : Option PlainAny → List ℕ → Result ObjectIdentifier Error → Type 0
WantedParameters parameters wanted (Ok oid) = ParametersOid parameters (Ok oid) × (oid_content oid ≡ wanted)
WantedParameters parameters wanted (Err (error.OidUnknown oid)) = ParametersOid parameters (Ok oid) × (oid_content oid ≢ wanted)
WantedParameters parameters wanted (Err e) = ParametersOid parameters (Err e)

-- Both as they are wanted, or why not: the algorithm is looked at first.
abbrev pub WantedOids : ObjectIdentifier → Option PlainAny → List ℕ → List ℕ → Result (Unit {0}) Error → Type 0
WantedOids held parameters algorithm wanted (Ok _) = (oid_content held ≡ algorithm) × ((oid : ObjectIdentifier) × WantedParameters parameters wanted (Ok oid))
WantedOids held parameters algorithm wanted (Err e) =
    ((oid_content held ≢ algorithm) × (e ≡ error.OidUnknown held)) ⊎ ((oid_content held ≡ algorithm) × WantedParameters parameters wanted (Err e))
