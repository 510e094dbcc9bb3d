-- The texts of the errors, and what the errors of DER become.
use Rattle.std.specs.Prelude.{ℕ, List, ◌++◌, codes}
use Rattle.der_core.specs.Error.{error_text as der_error_text}
use Rattle.der_core.specs.Oid.{oid_text}
use Rattle.der_core.specs.ObjectIdentifier.{oid_content}
use Rattle.der_core.specs.declared.error.Error.{Error as DerError}
use Rattle.der_core.specs.declared.error.Error.TheVariants as der
use Rattle.der_small.specs.KeyFiles.{Kind, Der, Memory, Other}
use Rattle.spki.specs.declared.error.Error.{Error}
use Rattle.spki.specs.declared.error.Error.TheVariants.{AlgorithmParametersMissing, Asn1, KeyMalformed, OidUnknown, OutOfMemory}

abbrev pub error_text : Error → List ℕ
error_text AlgorithmParametersMissing = codes "AlgorithmIdentifier parameters missing"
error_text (Asn1 e) = codes "ASN.1 error: " ++ der_error_text e
error_text KeyMalformed = codes "SPKI cryptographic key data malformed"
error_text (OidUnknown oid) = codes "unknown/unsupported algorithm OID: " ++ oid_text (oid_content oid)
error_text OutOfMemory = codes "out of memory"

-- An unknown identifier and want of memory stay what they are.
abbrev pub from_der_error : DerError → Error
from_der_error (der.OidUnknown oid) = OidUnknown oid
from_der_error der.OutOfMemory = OutOfMemory
from_der_error e = Asn1 e

-- What an error is in the words of key files.
abbrev pub kind_of : Error → Kind
kind_of (Asn1 e) = Der e
kind_of OutOfMemory = Memory
kind_of _ = Other
