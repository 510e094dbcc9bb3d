pub mod Crypt
