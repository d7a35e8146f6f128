pub mod Boards
pub mod Deeds
pub mod OneRun
pub mod Passes
pub mod Ports
pub mod Sharing
pub mod Values
