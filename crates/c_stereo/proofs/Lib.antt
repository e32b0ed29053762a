pub mod Passed
pub mod StereoLaws
