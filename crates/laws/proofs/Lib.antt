pub mod Ring
pub mod Sums
pub mod Limits
pub mod Books
pub mod Money
pub mod Laws
