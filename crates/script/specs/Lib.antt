pub mod Words
pub mod Groups
pub mod Calls
pub mod Lines
