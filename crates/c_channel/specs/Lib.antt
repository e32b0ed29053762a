pub mod ReadChannel
