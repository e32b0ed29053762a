pub mod StreamLaws
pub mod StreamLawful
pub mod PromiseLaws
pub mod Demands
pub mod All
pub mod StreamMoves
pub mod StreamNear
