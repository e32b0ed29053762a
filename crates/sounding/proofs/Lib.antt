pub mod SoundingLaws
