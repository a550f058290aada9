pub mod Entries
pub mod Entered
