pub mod Ledgers
pub mod Sheets
pub mod Judging
pub mod Opening
