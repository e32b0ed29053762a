pub mod Signs
pub mod EachLaws
pub mod FillLaws
pub mod Examples
