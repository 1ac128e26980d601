pub mod Entries
pub mod Laying
pub mod Holding
pub mod Sifting
pub mod Images
