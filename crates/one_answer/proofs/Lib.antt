pub mod Deciding
pub mod Sheets
pub mod Answering
pub mod Runs
