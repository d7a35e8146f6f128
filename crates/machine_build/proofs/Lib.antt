pub mod MapLaws
pub mod RefLaws
pub mod Steps
pub mod CellRuns
pub mod Whole
