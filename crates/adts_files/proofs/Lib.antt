pub mod WindowLaws
pub mod RowLaws
