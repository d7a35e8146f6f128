pub mod Entries
pub mod Found
pub mod Locks
pub mod Looked
pub mod Plain
