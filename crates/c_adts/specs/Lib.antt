pub mod FrameBytes
pub mod ReadFrame
pub mod UnwrapFrame
pub mod WrapStream
