-- What the contracts of this crate cite.
pub mod Answers
pub mod Attributes
pub mod Error
pub mod Extensions
pub mod PlainPrivateKey
pub mod PrivateKey
pub mod PrivateKeyInfo
pub mod ReadLaws
pub mod Same
pub mod Shown
pub mod ShownEncoding
pub mod Version
