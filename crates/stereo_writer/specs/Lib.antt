pub mod Spelling
pub mod Same
pub mod InnerWrote
pub mod Writing
