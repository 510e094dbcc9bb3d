-- What the contracts of this crate cite.
pub mod Refusal
pub mod Selection
pub mod Notice
