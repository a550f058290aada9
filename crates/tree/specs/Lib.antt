pub mod Links
pub mod Trees
pub mod Ways
pub mod Shape
pub mod Descent
