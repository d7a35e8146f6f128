pub mod Forward
pub mod Leaving
