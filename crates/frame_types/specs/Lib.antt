pub mod Leaving
pub mod Lowering
pub mod Plain
pub mod Standing
pub mod Taking
pub mod Found
