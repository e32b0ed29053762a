pub mod KindLaws
pub mod ListingLaws
pub mod IndexLaws
pub mod RowLaws
pub mod RecordLaws
pub mod ReadingLaws
