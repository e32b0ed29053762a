pub mod Answers
pub mod Outline
