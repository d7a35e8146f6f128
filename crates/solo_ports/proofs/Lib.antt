pub mod Along
pub mod Pinned
pub mod Resting
pub mod Staying
pub mod Unkept
pub mod Prefixes
pub mod Between
