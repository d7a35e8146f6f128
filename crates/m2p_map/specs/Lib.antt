pub mod Found
pub mod Maps
