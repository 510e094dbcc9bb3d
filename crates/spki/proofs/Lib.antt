pub mod Fields
pub mod Oids
pub mod Owned
