pub mod Sounding
