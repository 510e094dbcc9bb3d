pub mod VerifyError
pub mod Decoding
pub mod JoseHeader
pub mod TokenRules
pub mod Authority
pub mod Verdict
pub mod DigestBackend
pub mod Current
