-- Values of any tag that are read as object identifiers.
use Rattle.std.proofs.Common.{◌≡◌, ℕ, List, ◌++◌, length, drop, replicate, Some, Err, refl}
use Rattle.std.proofs.Math.Seq.{take-append_seam}
use Rattle.der_core.specs.Any.{PlainAny}
use Rattle.der_core.specs.Decode.{DecodedAs}
use Rattle.der_core.specs.Oid.{IsOidContent}
use Rattle.der_core.specs.ObjectIdentifier.{oid_content}
use Rattle.der_core.proofs.Oids.{holds_oid}
use Rattle.der_core.specs.declared.oid.ObjectIdentifier.{ObjectIdentifier}
use Rattle.der_core.specs.declared.error.Error.{Error as DerError}
use Rattle.der_core.specs.declared.error.Error.TheVariants as der
use Rattle.spki.specs.Error.{from_der_error}
use Rattle.spki.specs.AlgorithmOids.{IsNoOid, ParametersOid}

-- The identifier of a content.
pub oid_of : (b : List ℕ) → IsOidContent b → ObjectIdentifier
oid_of b is = record { bytes = b ++ drop (length b) (replicate 39 0); len = length b; holds = holds_oid b b refl is }

pub oid_of_content : (b : List ℕ) (is : IsOidContent b) → oid_content (oid_of b is) ≡ b
unfolding oid_of
oid_of_content b is = take-append_seam b (drop (length b) (replicate 39 0))

pub no_oid_of : (v : PlainAny) (e : DerError) → DecodedAs 6 (λ b o. oid_content o ≡ b) v.tag v.content (Err e) → IsNoOid v e
no_oid_of v der.Malformed h = (h.0, λ is. h.1 (oid_of v.content is) (oid_of_content v.content is))
no_oid_of v (der.TrailingData decoded remaining) h = h
no_oid_of v (der.TagUnexpected expected actual) h = h
no_oid_of v der.Overlength h = h
no_oid_of v der.OidMalformed h = h
no_oid_of v (der.OidUnknown oid) h = h
no_oid_of v der.FileMissing h = h
no_oid_of v der.FileFault h = h
no_oid_of v der.FileTooLong h = h
no_oid_of v der.OutOfMemory h = h

pub no_parameters_oid : (v : PlainAny) (e : DerError) → DecodedAs 6 (λ b o. oid_content o ≡ b) v.tag v.content (Err e)
    → ParametersOid (Some v) (Err (from_der_error e))
no_parameters_oid v der.Malformed h = no_oid_of v der.Malformed h
no_parameters_oid v (der.TrailingData decoded remaining) h = h
no_parameters_oid v (der.TagUnexpected expected actual) h = h
no_parameters_oid v der.Overlength h = h
no_parameters_oid v der.OidMalformed h = h
no_parameters_oid v (der.OidUnknown oid) h = h
no_parameters_oid v der.FileMissing h = h
no_parameters_oid v der.FileFault h = h
no_parameters_oid v der.FileTooLong h = h
no_parameters_oid v der.OutOfMemory h = h
