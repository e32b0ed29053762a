pub mod InnerHeading
pub mod InnerGathering
