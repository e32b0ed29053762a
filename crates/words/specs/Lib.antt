pub mod Words
pub mod Table
pub mod InnerLookup
pub mod Escape
