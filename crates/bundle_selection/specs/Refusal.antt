-- The line of a refused bundle document.
use Rattle.std.specs.Prelude.{ℕ, List, ◌++◌, codes, decimal}
use Rattle.refusal_lines.specs.Refusal.{json_rule}
use Rattle.bundle_document.specs.declared.error.DocumentError.{DocumentError}
use Rattle.bundle_document.specs.declared.error.DocumentError.TheVariants.{Deserialize, Sequence, RefreshHint, MissingKeyId, OutOfMemory}

abbrev pub document_line : DocumentError → List ℕ
document_line (Deserialize cause) = codes "refused: " ++ (json_rule cause ++ codes "\n")
document_line Sequence = codes "refused: bad sequence\n"
document_line RefreshHint = codes "refused: bad refresh hint\n"
document_line (MissingKeyId key) = codes "refused: key " ++ (decimal key ++ codes ": missing key ID\n")
document_line OutOfMemory = codes "refused: out of memory\n"
