-- What the contracts of this crate cite.
pub mod Request
pub mod Line
pub mod Script
pub mod Next
pub mod Reply
pub mod Replies
pub mod Session
pub use Rattle.tool_commands.specs.Outcome
pub use Rattle.tool_commands.specs.Printed
pub use Rattle.refusal_lines.specs.Refusal
pub use Rattle.tool_commands.specs.Report
pub use Rattle.command_line.specs.Status
