pub mod Errors
pub mod Canonical
pub mod LastBlock
pub mod Counts
pub mod Answers
