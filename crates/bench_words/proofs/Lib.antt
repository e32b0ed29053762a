pub mod ScanLaws
pub mod TableLaws
pub mod SumLaws
