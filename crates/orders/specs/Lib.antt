pub mod Reads
pub mod Books
