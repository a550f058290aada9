pub mod Answers
pub mod Power
pub mod Wishes
