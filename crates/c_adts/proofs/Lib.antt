pub mod FrameLaws
pub mod WrapLaws
