-- What the contracts of this crate cite.
pub mod Asked
pub mod Seen
pub mod WatchText
pub mod Applied
pub mod Watching
pub use Rattle.tool_script.specs.Request
pub use Rattle.tool_script.specs.Script
pub use Rattle.tool_script.specs.Reply
pub use Rattle.tool_script.specs.Replies
