pub mod Indices
pub mod StateBytes
pub mod ContentsBytes
