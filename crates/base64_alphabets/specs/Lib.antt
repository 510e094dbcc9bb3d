pub mod Url
pub mod Bcrypt
pub mod Pbkdf2
