pub mod Refusals
pub mod Repeated
