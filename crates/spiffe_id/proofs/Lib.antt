pub mod SplitFirst
pub mod PathSegments
pub mod LowerCase
pub mod Reading
pub mod MadeOfSegments
pub mod Rereading
