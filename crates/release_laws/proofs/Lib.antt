pub mod Parts
pub mod Seen
pub mod Words
pub mod Putting
pub mod Dropping
pub mod Liking
pub mod Parking
mod Entries
mod Running
pub mod Unwinding
mod Released
pub mod Settling
