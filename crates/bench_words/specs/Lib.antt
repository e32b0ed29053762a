pub mod InnerTable
pub mod InnerComparison
pub mod InnerSums
