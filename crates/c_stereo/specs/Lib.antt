pub mod StateCalls
pub mod ReadStereo
