pub mod Recounted
pub mod Growth
