pub mod Records
pub mod Back
pub mod Widths
