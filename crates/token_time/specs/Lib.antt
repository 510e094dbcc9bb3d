pub mod Number
pub mod Decimal
pub mod Nanoseconds
pub mod Views
pub mod Quiet
