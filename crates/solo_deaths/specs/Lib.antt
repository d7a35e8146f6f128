pub mod Between
pub mod Dying
