mod Known
mod Standing
mod Mapping
mod Olds
mod Taking
mod Serving
mod Stopping
mod Memory
mod Holding
mod Locking
mod Demanding
mod Released
mod Exchanging
mod Entries
mod Capping
mod Unkept
pub mod Writing
mod Lasting
mod Enduring
mod Relocking
mod Writes
mod Pairs
mod Addressed
mod Begun
mod Pausing
mod Again
mod Resuming
pub mod Meaning
