pub mod Tables
pub mod Sized
