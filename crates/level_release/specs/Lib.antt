pub mod Asking
pub mod Calls
pub mod Course
pub mod Holding
pub mod Parking
pub mod Settling
