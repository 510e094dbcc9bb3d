pub mod Pending
pub mod Rooms
pub mod Readings
pub mod Attending
pub mod Sessions
