-- What the contracts of this crate cite.
pub mod Elements
pub mod ElementsLaws
pub mod Document
pub mod DocumentFields
pub mod Written
pub mod Spelling
pub mod Refs
