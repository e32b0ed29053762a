pub mod GeneratedWords
pub mod Tables
pub mod GeneratedNames
pub mod InnerGenerated
pub mod InnerLent
pub mod InnerHalf
