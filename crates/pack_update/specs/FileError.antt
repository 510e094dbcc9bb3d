-- What is wrong with a file that a manifest names: as refusals of DER, and in words.
use Rattle.std.specs.Prelude.{ℕ, List, codes}
use Rattle.der_core.specs.Error.{error_text as der_text}
use Rattle.der_core.specs.declared.error.Error.{Error as DerError}
use Rattle.der_core.specs.declared.error.Error.TheVariants as der
use Rattle.pack_update.specs.declared.error.FileError.{FileError}
use Rattle.pack_update.specs.declared.error.FileError.TheVariants.{Missing, TooLong, Malformed, TrailingData}

-- the refusal of DER that it is
abbrev pub der_error : FileError → DerError
der_error Missing = der.FileMissing
der_error TooLong = der.FileTooLong
der_error Malformed = der.Malformed
der_error (TrailingData decoded remaining) = der.TrailingData decoded remaining

-- what is wrong with a file, in the words of DER where its bytes were read
abbrev pub file_rule : FileError → List ℕ
file_rule Missing = codes "missing"
file_rule TooLong = codes "too long"
file_rule Malformed = der_text der.Malformed
file_rule (TrailingData decoded remaining) = der_text (der.TrailingData decoded remaining)
