-- What the contracts of this crate cite.
pub mod Words
pub mod Views
pub mod Refusal
pub mod Run
pub mod Notice
