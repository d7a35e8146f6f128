mod Words
mod Owners
mod Readings
pub mod Counts
pub mod Hands
mod Entries
mod Map
mod Bounds
mod Spelled
