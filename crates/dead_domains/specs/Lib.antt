pub mod Buried
pub mod Holders
pub mod Listing
pub mod Moments
pub mod Stopped
