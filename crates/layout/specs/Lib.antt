pub mod Items
pub mod Values
pub mod Layouts
