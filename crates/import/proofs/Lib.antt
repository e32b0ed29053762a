pub mod HeadingLaws
pub mod GatheringLaws
