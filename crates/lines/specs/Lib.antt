pub mod Open
pub mod Entries
pub mod PieceReplies
pub mod Room
pub mod Enter
pub mod Taking
pub mod Retained
