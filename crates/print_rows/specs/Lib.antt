pub mod InnerSigned
pub mod InnerEach
pub mod InnerFill
pub mod InnerMarks
pub mod InnerChannelRows
pub mod InnerStereoRows
pub mod InnerEnvelopeRows
pub mod InnerStateRows
