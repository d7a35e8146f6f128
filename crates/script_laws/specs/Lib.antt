pub mod Logged
pub mod Opening
pub mod Plain
pub mod Turns
