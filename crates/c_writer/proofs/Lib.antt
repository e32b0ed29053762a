pub mod Passed
pub mod WriteLaws
