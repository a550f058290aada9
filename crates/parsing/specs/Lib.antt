pub mod Numbers
pub mod Reasons
