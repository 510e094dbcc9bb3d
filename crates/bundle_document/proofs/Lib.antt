pub mod KeyLemmas
pub mod ValueLemmas
