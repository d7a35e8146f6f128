pub mod Extents
pub mod Returning
