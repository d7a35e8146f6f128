pub mod Counts
pub mod Taking
pub mod Dropping
pub mod Getting
pub mod Tabled
