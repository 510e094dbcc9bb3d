-- What the contracts of this crate cite.
pub mod Keys
pub mod DocumentError
pub mod Document
pub mod Reading
pub mod Feed
