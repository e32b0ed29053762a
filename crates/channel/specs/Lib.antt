pub mod Stream
pub mod Promise
pub mod InnerAnswers
