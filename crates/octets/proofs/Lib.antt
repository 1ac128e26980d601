pub mod Splices
pub mod Numbers
pub mod Packs
