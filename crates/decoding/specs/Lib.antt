pub mod Groups
pub mod Operands
