-- What the contracts of this crate cite.
pub mod Status
pub mod Outcome
pub mod Words
