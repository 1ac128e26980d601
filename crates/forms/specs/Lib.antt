pub mod Said
pub mod Replies
pub mod Records
pub mod Totals
pub mod Agreement
