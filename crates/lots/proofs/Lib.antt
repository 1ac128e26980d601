pub mod Exactly
pub mod Cutting
pub mod Figures
