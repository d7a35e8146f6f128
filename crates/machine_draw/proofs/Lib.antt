pub mod Marks
pub mod Reaches
pub mod OwnRuns
pub mod Texts
