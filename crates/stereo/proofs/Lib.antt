pub mod ExtensionLaws
pub mod TurnLaws
pub mod PayloadLaws
pub mod PayloadNear
pub mod All
pub mod StateLaws
pub mod Opened
