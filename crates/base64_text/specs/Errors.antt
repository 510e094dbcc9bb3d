-- What an error prints, and its kind as an error of input or output.
use Rattle.std.specs.Prelude.{ℕ, List, codes}
use Rattle.std.specs.declared.io.ErrorKind.{ErrorKind}
use Rattle.std.specs.declared.io.ErrorKind.TheVariants.{InvalidData, OutOfMemory as MemoryShort}
use Rattle.base64_text.specs.declared.errors.Error.{Error}
use Rattle.base64_text.specs.declared.errors.Error.TheVariants.{InvalidEncoding, InvalidLength, OutOfMemory}

abbrev pub error_text : Error → List ℕ
error_text InvalidEncoding = codes "invalid Base64 encoding"
error_text InvalidLength = codes "invalid Base64 length"
error_text OutOfMemory = codes "out of memory"

abbrev pub io_kind : Error → ErrorKind
io_kind InvalidEncoding = InvalidData
io_kind InvalidLength = InvalidData
io_kind OutOfMemory = MemoryShort
