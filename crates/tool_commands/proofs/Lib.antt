pub mod Answered
pub mod Applied
mod Made
