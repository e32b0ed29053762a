pub mod State
pub mod Header
pub mod Frame
pub mod Extension
pub mod Payload
pub mod Carried
pub mod Restart
