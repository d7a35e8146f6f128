pub mod Decreasing
pub mod GivingBack
mod Reserving
