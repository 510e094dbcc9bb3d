-- Lines that an encoder writes.
use Rattle.std.specs.Prelude.{ℕ, ◌≤◌, Option, Some, None}
use Rattle.base64ct.specs.declared.line_ending.LineEnding.{LineEnding}

-- lines of at least four characters, or none
abbrev pub IsWideEnough : Option (ℕ × LineEnding) → Type 0
IsWideEnough None = Unit {0}
IsWideEnough (Some lines) = 4 ≤ lines.0
