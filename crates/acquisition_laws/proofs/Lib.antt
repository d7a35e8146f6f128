pub mod Spelled
pub mod Steps
pub mod Lows
pub mod Visits
pub mod Walking
mod Answered
