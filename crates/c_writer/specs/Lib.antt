pub mod WriteStereo
