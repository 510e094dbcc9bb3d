-- The texts of the errors, and what errors of other crates become. Want of memory inside an error is want of memory.
use Rattle.std.specs.Prelude.{ℕ, List, ◌++◌, codes}
use Rattle.der_core.specs.Error.{error_text as der_error_text}
use Rattle.der_core.specs.declared.error.Error.{Error as DerError}
use Rattle.der_core.specs.declared.error.Error.TheVariants as der
use Rattle.der_small.specs.KeyFiles.{Kind, Der, Memory, Other}
use Rattle.spki.specs.Error.{error_text as spki_error_text}
use Rattle.spki.specs.declared.error.Error.{Error as SpkiError}
use Rattle.spki.specs.declared.error.Error.TheVariants as spki
use Rattle.pkcs8.specs.declared.error.Error.{Error}
use Rattle.pkcs8.specs.declared.error.Error.TheVariants.{Asn1, KeyMalformed, ParametersMalformed, PublicKey, OutOfMemory}
use Rattle.pkcs8.specs.declared.error.KeyError.{KeyError}
use Rattle.pkcs8.specs.declared.error.KeyError.TheVariants.{Invalid, TooShort, TooLong}

abbrev pub key_error_text : KeyError → List ℕ
key_error_text Invalid = codes "key invalid"
key_error_text TooShort = codes "key too short"
key_error_text TooLong = codes "key too long"

abbrev pub error_text : Error → List ℕ
error_text (Asn1 e) = codes "PKCS#8 ASN.1 error: " ++ der_error_text e
error_text (KeyMalformed e) = codes "PKCS#8 key malformed: " ++ key_error_text e
error_text ParametersMalformed = codes "PKCS#8 algorithm parameters malformed"
error_text (PublicKey e) = codes "public key error: " ++ spki_error_text e
error_text OutOfMemory = codes "out of memory"

abbrev pub from_der_error : DerError → Error
from_der_error der.OutOfMemory = OutOfMemory
from_der_error e = Asn1 e

-- What an error is in the words of key files.
abbrev pub kind_of : Error → Kind
kind_of (Asn1 e) = Der e
kind_of OutOfMemory = Memory
kind_of _ = Other

abbrev pub from_spki_error : SpkiError → Error
from_spki_error spki.OutOfMemory = OutOfMemory
from_spki_error (spki.Asn1 der.OutOfMemory) = OutOfMemory
from_spki_error e = PublicKey e

abbrev pub to_spki_error : Error → SpkiError
to_spki_error (Asn1 der.OutOfMemory) = spki.OutOfMemory
to_spki_error (Asn1 e) = spki.Asn1 e
to_spki_error (PublicKey (spki.Asn1 der.OutOfMemory)) = spki.OutOfMemory
to_spki_error (PublicKey e) = e
to_spki_error OutOfMemory = spki.OutOfMemory
to_spki_error (KeyMalformed e) = spki.KeyMalformed
to_spki_error ParametersMalformed = spki.KeyMalformed
