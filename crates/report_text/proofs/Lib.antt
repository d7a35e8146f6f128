pub mod Blocks
pub mod HexDigits
pub mod Pending
pub mod Ranges
