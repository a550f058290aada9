pub mod Phases
pub mod Drafts
pub mod Layerings
