pub mod Events
pub mod Words
pub mod Situations
pub mod Right
pub mod Promise
pub mod Keeping
pub mod Steps
pub mod Handling
