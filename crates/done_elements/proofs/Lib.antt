pub mod Elements
pub mod Turning
pub mod Fresh
pub mod Threads
pub mod ByTurns
