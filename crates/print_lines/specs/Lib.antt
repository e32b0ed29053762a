pub mod InnerText
pub mod InnerPlaces
pub mod InnerListing
pub mod InnerFrames
