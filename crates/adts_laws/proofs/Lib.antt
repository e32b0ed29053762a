pub mod CutBits
pub mod Outside
pub mod FramePlaces
pub mod WrappedBits
pub mod RoundTrips
pub mod FrameCalls
