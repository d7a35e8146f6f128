pub mod Asking
pub mod Course
pub mod Holding
pub mod Parts
pub mod Serving
pub mod Words
