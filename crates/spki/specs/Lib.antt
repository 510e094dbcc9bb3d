-- What the contracts of this crate cite.
pub mod Algorithm
pub mod AlgorithmLaws
pub mod AlgorithmOids
pub mod Answers
pub mod WrittenAlike
pub mod Error
pub mod Fingerprint
pub mod Identifier
pub mod PlainAlgorithm
pub mod PlainPublicKey
pub mod PublicKey
pub mod PublicKeyLaws
pub mod ReadLaws
pub mod Same
pub mod SomeKeys
pub mod Written
