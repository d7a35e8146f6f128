pub mod Answers
pub mod Types
pub mod Entries
