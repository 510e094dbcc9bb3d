-- What reading the files that a manifest names may be answered.
use Rattle.std.specs.Prelude.{ℕ, nat_lt, List, length, Option, Some, None, Result, Ok, Err, if◌then◌else◌}
use Rattle.der_core.specs.declared.error.Error.{Error as DerError}
use Rattle.der_core.specs.declared.error.Error.TheVariants as der
use Rattle.der_small.specs.KeyFiles.{ReadsKeyFile}
use Rattle.identity_update.specs.Verdict.{map_refusal}
use Rattle.pkcs8.specs.Answers.{ReadAnswer as PrivateAnswer}
use Rattle.pkcs8.specs.Error.{kind_of as private_kind}
use Rattle.pkcs8.specs.PlainPrivateKey.{PlainPrivateKey, ReadsPrivateKey}
use Rattle.pkcs8.specs.declared.error.Error.{Error as PrivateError}
use Rattle.pkcs8.specs.declared.error.Error.TheVariants as pkcs8
use Rattle.spki.specs.Answers.{ReadAnswer as PublicAnswer}
use Rattle.spki.specs.Error.{kind_of as public_kind}
use Rattle.spki.specs.PlainPublicKey.{PlainPublicKey, ReadsPublicKey}
use Rattle.spki.specs.declared.error.Error.{Error as PublicError}
use Rattle.spki.specs.declared.error.Error.TheVariants as spki
use Rattle.pack_update.specs.FileError.{der_error}
use Rattle.pack_update.specs.declared.error.FileError.{FileError}
use Rattle.pack_update.specs.declared.error.FileError.TheVariants.{Missing, TooLong, Malformed, TrailingData}
use Rattle.pack_update.specs.declared.error.PackError.{PackError}
use Rattle.pack_update.specs.declared.error.PackError.TheVariants as broken
use Rattle.pack_update.specs.declared.files.KeyFile.{KeyFile}
use Rattle.pack_update.specs.declared.files.KeyFile.TheVariants.{Private, Public}

-- the bytes of a file of at most 16,777,216 bytes
abbrev pub whole_file : PackError → PackError → Option (List ℕ) → Result (List ℕ) PackError
whole_file missing too_long None = Err missing
whole_file missing too_long (Some bytes) = if nat_lt 16777216 (length bytes) then Err too_long else Ok bytes

-- what reading a private key from the file that stands at a path answers: the file is read as a document first
abbrev pub ReadsPrivateKeyFile : Option (List ℕ) → Result PlainPrivateKey FileError → Type 0
ReadsPrivateKeyFile found r = ReadsKeyFile private_kind (λ key. key) (PrivateAnswer ReadsPrivateKey) found (map_refusal (λ e. pkcs8.Asn1 (der_error e)) r)

-- the same of a public key
abbrev pub ReadsPublicKeyFile : Option (List ℕ) → Result PlainPublicKey FileError → Type 0
ReadsPublicKeyFile found r = ReadsKeyFile public_kind (λ key. key) (PublicAnswer ReadsPublicKey) found (map_refusal (λ e. spki.Asn1 (der_error e)) r)

-- the refusal of an entry's file
abbrev pub file_refusal : KeyFile → FileError → PackError
file_refusal (Private entry) cause = broken.KeyFile entry cause
file_refusal (Public entry) cause = broken.PublicFile entry cause

-- what a refusal of DER says of an entry's file. Those that are no refusals of a file are not met.
abbrev pub der_refusal : KeyFile → DerError → PackError
der_refusal file der.FileMissing = file_refusal file Missing
der_refusal file der.FileTooLong = file_refusal file TooLong
der_refusal file der.FileFault = broken.Fault
der_refusal file der.OutOfMemory = broken.OutOfMemory
der_refusal file (der.TrailingData decoded remaining) = file_refusal file (TrailingData decoded remaining)
der_refusal file der.Malformed = file_refusal file Malformed
der_refusal file (der.TagUnexpected expected actual) = file_refusal file Malformed
der_refusal file der.Overlength = file_refusal file Malformed
der_refusal file der.OidMalformed = file_refusal file Malformed
der_refusal file (der.OidUnknown oid) = file_refusal file Malformed

-- the same of a refusal of a private key
abbrev pub private_refusal : ℕ → PrivateError → PackError
private_refusal entry (pkcs8.Asn1 e) = der_refusal (Private entry) e
private_refusal entry pkcs8.OutOfMemory = broken.OutOfMemory
private_refusal entry (pkcs8.KeyMalformed e) = broken.KeyFile entry Malformed
private_refusal entry pkcs8.ParametersMalformed = broken.KeyFile entry Malformed
private_refusal entry (pkcs8.PublicKey e) = broken.KeyFile entry Malformed

-- the same of a refusal of a public key
abbrev pub public_refusal : ℕ → PublicError → PackError
public_refusal entry (spki.Asn1 e) = der_refusal (Public entry) e
public_refusal entry spki.OutOfMemory = broken.OutOfMemory
public_refusal entry spki.AlgorithmParametersMissing = broken.PublicFile entry Malformed
public_refusal entry spki.KeyMalformed = broken.PublicFile entry Malformed
public_refusal entry (spki.OidUnknown oid) = broken.PublicFile entry Malformed
