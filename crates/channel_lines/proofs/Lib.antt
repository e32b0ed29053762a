pub mod SpectrumLaws
pub mod SpectrumLawful
pub mod SpectrumMoves
pub mod SpectrumNear
