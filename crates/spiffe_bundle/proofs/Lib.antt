pub mod MapEntries
pub mod StoredEntries
pub mod KeySets
pub mod Loops
