pub mod Leading
pub mod Spelling
pub mod OneBlock
pub mod AllBlocks
pub mod Cutting
pub mod Saved
