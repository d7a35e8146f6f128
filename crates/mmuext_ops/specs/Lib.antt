pub mod Bases
pub mod Elements
pub mod Course
pub mod Holding
