pub mod Units
pub mod Split
pub mod Pieces
pub mod Limits
