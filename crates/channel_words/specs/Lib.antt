pub mod Books
pub mod Tuple
pub mod InnerWords
pub mod InnerPairs
