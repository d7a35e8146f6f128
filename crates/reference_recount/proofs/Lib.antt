pub mod Asked
pub mod KindForms
pub mod More
pub mod Whole
