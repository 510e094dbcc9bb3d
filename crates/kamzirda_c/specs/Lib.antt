-- What the contracts of the exports cite.
pub mod Status
pub mod Buffers
pub mod Base64
pub mod Rules
pub mod Ids
pub mod Keys
pub mod Updates
