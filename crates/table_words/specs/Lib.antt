pub mod Entries
pub mod OldWords
pub mod Pins
