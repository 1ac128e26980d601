pub mod Tables
pub mod Accounts
pub mod Parts
pub mod Lines
pub mod Families
