pub mod Firsts
pub mod Flows
pub mod Totals
