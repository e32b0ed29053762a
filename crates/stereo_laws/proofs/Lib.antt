pub mod Restarting
pub mod Agree
pub mod RestartLaws
pub mod SoundLaws
pub mod PayloadNumbers
