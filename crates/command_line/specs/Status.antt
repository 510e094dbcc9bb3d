-- How the run of a program ends.
use Rattle.std.specs.Prelude.{ℕ, List, Option, Some, None, codes}
use Rattle.identity_io.specs.declared.whole.ReadError.{ReadError}
use Rattle.identity_io.specs.declared.whole.ReadError.TheVariants as read
use Rattle.command_line.specs.declared.status.Status.{Status}
use Rattle.command_line.specs.declared.status.Status.TheVariants.{Done, Refused, Usage, SourceFailed, SinkFailed, OutOfMemory, TooLong, BadScript}

-- the number of an exit status
abbrev pub status_number : Status → ℕ
status_number Done = 0
status_number Refused = 1
status_number Usage = 2
status_number SourceFailed = 3
status_number SinkFailed = 4
status_number OutOfMemory = 5
status_number TooLong = 6
status_number BadScript = 7

-- what a person is told of it where the program has no words of its own, none where the output says it
abbrev pub notice_text : Status → Option (List ℕ)
notice_text Done = None
notice_text Refused = None
notice_text Usage = Some (codes "the words are no command")
notice_text SourceFailed = Some (codes "the input could not be read")
notice_text SinkFailed = Some (codes "the output could not be written")
notice_text OutOfMemory = Some (codes "no memory was left")
notice_text TooLong = Some (codes "the input is too long")
notice_text BadScript = Some (codes "the input is no script")

-- how a run ends whose input was not read to its end
abbrev pub read_status : ReadError → Status
read_status read.Failed = SourceFailed
read_status read.TooLong = TooLong
read_status read.OutOfMemory = OutOfMemory
