pub mod MapEntries
pub mod StoredEntries
