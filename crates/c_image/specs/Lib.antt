pub mod ImageCalls
