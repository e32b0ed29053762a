pub mod StateLaws
pub mod EnvelopeLaws
pub mod BackLaws
pub mod Turn
