mod Advances
pub mod Answers
pub mod Bases
pub mod Calls
pub mod Clearing
pub mod Destroys
pub mod Emptying
pub mod Entries
mod Marks
mod Passes
pub mod Released
mod Runs
pub mod Settled
