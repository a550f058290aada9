pub mod Phases
pub mod Amounts
pub mod Pages
