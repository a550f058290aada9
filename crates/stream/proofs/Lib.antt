pub mod Standing
pub mod Rows
mod Spelled
