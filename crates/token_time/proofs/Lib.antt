pub mod Digits
pub mod Powers
pub mod Zeros
pub mod Times
