pub mod Keeping
pub mod Lists
pub mod OrderNumbers
pub mod Sections
pub mod Taking
