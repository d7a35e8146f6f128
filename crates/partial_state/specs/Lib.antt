pub mod Levels
pub mod Stacks
pub mod Weights
pub mod Works
