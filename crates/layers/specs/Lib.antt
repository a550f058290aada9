pub mod Lowered
pub mod Watched
pub mod Layers
pub mod Holding
pub mod Piled
