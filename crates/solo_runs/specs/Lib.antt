pub mod Finishing
pub mod Pins
