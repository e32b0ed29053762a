pub mod RisingLaws
pub mod ImageLaws
pub mod PartLaws
