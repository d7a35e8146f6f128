pub mod Inside
pub mod Telling
