-- Lemmas.
pub mod Tagged
pub mod Writing
pub mod Oids
pub mod Subidentifiers
pub mod Identifiers
pub mod Owned
pub mod Encoded
pub mod Decimals
pub mod Texts
pub mod Compared
