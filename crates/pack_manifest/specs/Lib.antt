pub mod ManifestError
pub mod Manifest
pub mod Views
