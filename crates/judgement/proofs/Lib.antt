pub mod Running
pub mod Paying
pub mod Books
pub mod Filling
pub mod Verdicts
pub mod Ties
pub mod Steps
