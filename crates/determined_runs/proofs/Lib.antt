pub mod Orders
pub mod Stages
pub mod Texts
pub mod Works
