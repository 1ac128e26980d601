pub mod Grounds
pub mod Heading
pub mod Terms
pub mod Wanted
pub mod Totals
