pub mod DocumentLaws
pub mod ElementsReading
pub mod ElementsWriting
pub mod PlainReads
pub mod FitsLaws
pub mod OneLaws
