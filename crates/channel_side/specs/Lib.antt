pub mod Window
pub mod Sections
pub mod Factors
pub mod Pulses
pub mod InnerAnswers
