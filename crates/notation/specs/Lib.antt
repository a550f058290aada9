pub mod Showing
pub mod Scanning
pub mod Writing
pub mod Faults
