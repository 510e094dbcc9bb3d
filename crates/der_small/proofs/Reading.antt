-- From the bytes of a file to its document.
use Rattle.std.proofs.Common.{ℕ, ◌≤◌, List, length, Option, Some, Result, Ok, Err, Vec}
use Rattle.der_core.specs.Decode.{FromDerOwned}
use Rattle.der_core.specs.declared.error.Error.{Error}
use Rattle.der_core.specs.declared.error.Error.TheVariants as error
use Rattle.der_small.specs.Files.{FileBytes, ReadsFile}
use Rattle.der_small.specs.OneValue.{IsOneValue}

read_document : {D : Type 0} (document_bytes : D → List ℕ) (bytes : List ℕ) (r : Result D Error) → length bytes ≤ 16777216
    → FromDerOwned document_bytes IsOneValue bytes r → ReadsFile document_bytes (Some bytes) r
read_document seen bytes (Ok d) short r = (short, r)
read_document seen bytes (Err error.Malformed) short r = (short, r)
read_document seen bytes (Err (error.TrailingData decoded remaining)) short r = (short, r)
read_document seen bytes (Err (error.TagUnexpected expected actual)) short r = r
read_document seen bytes (Err error.Overlength) short r = r
read_document seen bytes (Err error.OidMalformed) short r = r
read_document seen bytes (Err (error.OidUnknown oid)) short r = r
read_document seen bytes (Err error.FileMissing) short r = absurd r
read_document seen bytes (Err error.FileFault) short r = absurd r
read_document seen bytes (Err error.FileTooLong) short r = absurd r
read_document seen bytes (Err error.OutOfMemory) short r = r

pub file_document : {A D : Type 0} (document_bytes : D → List ℕ) (found : Option (List ℕ)) (v : Vec ℕ A) (r : Result D Error) → FileBytes found (Ok v)
    → FromDerOwned document_bytes IsOneValue v.items r → ReadsFile document_bytes found r
file_document seen found v r f owned = rw f.0 (read_document seen v.items r f.1 owned)
