pub mod Table
pub mod Passes
pub mod Group
pub mod Form
pub mod Encoding
pub mod Lanes
pub mod Standard
