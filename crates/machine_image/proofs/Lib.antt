pub mod Bytes
pub mod Fields
pub mod Images
pub mod Whole
pub mod Loop
pub mod Machines
mod Pieces
pub mod Stands
