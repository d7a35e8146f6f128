pub mod Keeping
pub mod Mapping
pub mod Replaying
pub mod Unclaimed
