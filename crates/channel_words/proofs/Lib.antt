pub mod BookLaws
pub mod MagnitudeLaws
pub mod ValueLaws
