pub mod Figures
pub mod Answers
pub mod Texts
pub mod Shown
