-- What a person at the terminal is told.
use Rattle.std.specs.Prelude.{ℕ, List, Option, Some, codes}
use Rattle.command_line.specs.Status.{notice_text}
use Rattle.command_line.specs.declared.status.Status.{Status}
use Rattle.command_line.specs.declared.status.Status.TheVariants.{Usage, SourceFailed}

-- of a status of this program, none where the output says it
abbrev pub packing_notice : Status → Option (List ℕ)
packing_notice Usage = Some (codes "usage: identity_pack pack MANIFEST WIDTH")
packing_notice SourceFailed = Some (codes "a file could not be read")
packing_notice other = notice_text other
