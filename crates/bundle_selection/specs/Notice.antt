-- What a person at the terminal is told.
use Rattle.std.specs.Prelude.{ℕ, List, Option, Some, codes}
use Rattle.command_line.specs.Status.{notice_text}
use Rattle.command_line.specs.declared.status.Status.{Status}
use Rattle.command_line.specs.declared.status.Status.TheVariants.{Usage, TooLong}

-- of a status of this program, none where the output says it
abbrev pub selection_notice : Status → Option (List ℕ)
selection_notice Usage = Some (codes "usage: bundle_keys < DOCUMENT")
selection_notice TooLong = Some (codes "the document has more than 16777216 bytes")
selection_notice other = notice_text other
