pub mod OutlineLaws
pub mod RowLaws
