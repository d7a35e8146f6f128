pub mod Giving
pub mod Guests
pub mod Later
pub mod Paths
