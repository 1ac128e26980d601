pub mod Each
pub mod Sums
