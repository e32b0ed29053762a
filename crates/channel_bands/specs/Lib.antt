pub mod Bands
pub mod Grouping
pub mod InnerBands
