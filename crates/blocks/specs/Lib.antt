pub mod Bytes
pub mod Filled
pub mod Image
pub mod Sifting
