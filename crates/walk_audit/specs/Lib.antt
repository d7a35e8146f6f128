pub mod Breaks
pub mod Order
pub mod Judged
pub mod Burials
pub mod Leads
pub mod Lines
