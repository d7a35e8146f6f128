pub mod Asking
pub mod Tops
pub mod Plain
pub mod Found
pub mod Between
pub mod Acquiring
pub mod Ending
