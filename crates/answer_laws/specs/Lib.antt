pub mod Alone
pub mod Walked
