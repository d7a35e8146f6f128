pub mod Hands
pub mod Keeping
pub mod MarkWords
pub mod Serving
pub mod Taking
