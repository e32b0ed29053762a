pub mod InnerWindow
pub mod InnerRows
