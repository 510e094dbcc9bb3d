pub mod Metadata
pub mod SecurityHeader
