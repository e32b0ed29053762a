pub mod HeaderLaws
pub mod BlockLaws
pub mod CutLaws
pub mod WrappingLaws
pub mod PromiseLaws
