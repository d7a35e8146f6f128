pub mod Counted
pub mod Fronts
pub mod Lines
pub mod Parts
pub mod TraceOf
pub mod WellFormed
