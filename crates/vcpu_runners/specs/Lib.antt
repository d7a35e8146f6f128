pub mod Cpus
pub mod Destroyed
pub mod Gates
pub mod Replayed
pub mod Rows
pub mod Runners
pub mod Turns
pub mod Working
