pub mod FileError
pub mod Rules
pub mod KeyFiles
pub mod Packed
pub mod Tries
pub mod Text
pub mod OneAnswer
