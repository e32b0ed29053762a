pub mod Kind
pub mod Difference
pub mod Record
pub mod Indices
pub mod Rows
pub mod InnerTables
