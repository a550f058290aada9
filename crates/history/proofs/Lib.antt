pub mod Asking
pub mod Lists
pub mod Telling
pub mod Promised
pub mod Handling
pub mod Calling
