pub mod Cases
pub mod Table
pub mod Settled
