pub mod Splice
pub mod Digits
pub mod Texts
pub mod Dates
pub mod Options
