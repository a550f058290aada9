pub mod Bounds
pub mod Kwh
pub mod Rows
