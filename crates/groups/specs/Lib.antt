pub mod Limits
pub mod Each
pub mod Sums
pub mod Groups
