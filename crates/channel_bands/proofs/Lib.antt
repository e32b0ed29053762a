pub mod BandLaws
pub mod GroupingLaws
pub mod GroupCounts
