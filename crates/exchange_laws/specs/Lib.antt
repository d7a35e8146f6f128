pub mod Plain
pub mod Locks
