pub mod Deciding
pub mod Described
pub mod Keeping
pub mod Leaving
pub mod Repeating
pub mod Sparing
pub mod Undoing
pub mod Untouched
