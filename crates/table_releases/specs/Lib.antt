pub mod Tops
pub mod Found
pub mod Between
pub mod Plain
