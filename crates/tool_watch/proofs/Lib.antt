pub mod Taking
pub mod Lists
pub mod Workers
pub mod Told
pub mod Texts
pub mod Ends
