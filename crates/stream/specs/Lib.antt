pub mod Spelling
pub mod Reading
pub mod Faults
pub mod Letters
