-- What the contracts of this crate cite.
pub mod Entries
pub mod JwtBundleError
pub mod JwtAuthority
pub mod KeySet
pub mod JwtBundle
pub mod JwtBundleSet
