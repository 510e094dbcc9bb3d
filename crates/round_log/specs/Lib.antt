pub mod Logged
pub mod Rounds
