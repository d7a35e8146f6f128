pub mod Addresses
pub mod Course
pub mod Elements
pub mod Exchanges
pub mod Fits
pub mod Plain
pub mod UpdatesAt
pub mod Writing
