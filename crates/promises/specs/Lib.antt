pub mod Run
pub mod Allowed
pub mod AnswerAt
pub mod CallRun
pub mod Bench
pub mod Refusals
