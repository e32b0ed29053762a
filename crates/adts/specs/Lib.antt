pub mod Header
pub mod Block
pub mod Frame
pub mod Cut
pub mod Wrapping
pub mod Promise
pub mod InnerHeader
pub mod InnerAnswers
