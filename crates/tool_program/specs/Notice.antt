-- What a person at the terminal is told.
use Rattle.std.specs.Prelude.{ℕ, List, Option, Some, codes}
use Rattle.command_line.specs.Status.{notice_text}
use Rattle.command_line.specs.declared.status.Status.{Status}
use Rattle.command_line.specs.declared.status.Status.TheVariants.{Usage, TooLong, BadScript}

-- of a status of this program, none where the output says it
abbrev pub tool_notice : Status → Option (List ℕ)
tool_notice Usage = Some (codes "usage: identity_tool show WIDTH < UPDATE, serve WIDTH < SCRIPT, watch WIDTH WORKERS < SCRIPT or make N")
tool_notice TooLong =
    Some (codes "the input has an update of more than 16777216 bytes, under watch updates of more than that together, or more than 10000 requests")
tool_notice BadScript = Some (codes "the script has a line that is no request, or ends before its end")
tool_notice other = notice_text other
