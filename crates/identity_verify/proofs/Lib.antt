pub mod Decodings
pub mod Readings
pub mod Chains
mod OneDecoding
