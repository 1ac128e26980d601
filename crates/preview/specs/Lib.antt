pub mod Families
pub mod Judge
pub mod Words
pub mod Outcome
pub mod Reasons
pub mod Table
