pub mod Kinds
pub mod Slopes
pub mod Sounds
pub mod Gains
pub mod Wishes
