-- The texts of the errors.
use Rattle.std.specs.Prelude.{ℕ, ◌/◌, ◌%◌, List, [], ◌∷◌, ◌++◌, true, codes}
use Rattle.std.specs.Fmt.{decimal, digit_glyph}
use Rattle.der_core.specs.Oid.{oid_text}
use Rattle.der_core.specs.Tag.{byte_of}
use Rattle.der_core.specs.ObjectIdentifier.{oid_content}
use Rattle.der_core.specs.declared.error.Error.{Error}
use Rattle.der_core.specs.declared.error.Error.TheVariants.{Malformed, TrailingData, TagUnexpected, Overlength, OidMalformed, OidUnknown, FileMissing}
use Rattle.der_core.specs.declared.error.Error.TheVariants.{FileFault, FileTooLong, OutOfMemory}

-- A byte as two upper-case hexadecimal digits.
abbrev pub hex_text : ℕ → List ℕ
hex_text n = digit_glyph true (n / 16) ∷ digit_glyph true (n % 16) ∷ []

abbrev pub error_text : Error → List ℕ
error_text Malformed = codes "malformed"
error_text (TrailingData decoded remaining) = codes "trailing data: decoded " ++ (decimal decoded ++ (codes ", remaining " ++ decimal remaining))
error_text (TagUnexpected expected actual) = codes "unexpected tag: expected " ++ hex_text (byte_of expected) ++ codes ", actual " ++ hex_text (byte_of actual)
error_text Overlength = codes "length too large"
error_text OidMalformed = codes "malformed OID"
error_text (OidUnknown oid) = codes "unknown OID: " ++ oid_text (oid_content oid)
error_text FileMissing = codes "file missing"
error_text FileFault = codes "file fault"
error_text FileTooLong = codes "file too long"
error_text OutOfMemory = codes "out of memory"
