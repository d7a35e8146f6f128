pub mod Made
pub mod WellMade
