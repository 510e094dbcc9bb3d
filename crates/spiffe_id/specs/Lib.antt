pub mod Rules
pub mod SpiffeIdError
pub mod Scheme
pub mod TrustDomain
pub mod Path
pub mod SpiffeId
