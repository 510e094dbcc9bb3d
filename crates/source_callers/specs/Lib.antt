-- What the contracts of these callers cite.
pub mod Told
