pub mod Choosing
pub mod Claims
pub mod Extents
pub mod Lists
pub mod Parts
pub mod Returns
pub mod Taking
