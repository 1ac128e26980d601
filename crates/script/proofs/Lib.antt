pub mod Splitting
pub mod Fitting
