pub mod BytesLaws
pub mod ReadingLaws
pub mod All
