pub mod Products
pub mod Arrays
pub mod Summing
pub mod Pricing
pub mod Casts
