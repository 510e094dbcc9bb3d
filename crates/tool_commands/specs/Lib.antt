pub mod Printed
pub mod Report
pub mod Outcome
pub mod Made
