pub mod Covers
pub mod Histories
pub mod Panes
pub mod Readers
pub mod Sources
pub mod Steps
mod Revisions
