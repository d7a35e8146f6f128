pub mod Cells
pub mod Freeing
pub mod Plain
pub mod Refs
