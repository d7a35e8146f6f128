pub mod EntrySteps
pub mod Exchanging
pub mod LockSteps
pub mod LockWriting
pub mod Looking
pub mod Standings
pub mod Unlocking
pub mod Ways
