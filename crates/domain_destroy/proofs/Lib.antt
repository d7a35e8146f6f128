mod AllWords
pub mod Burying
mod Cleared
mod Dooming
mod Ending
mod Gating
mod Giving
mod LettingGo
pub mod Lines
mod Marked
mod NoUse
pub mod Noes
mod OneVcpu
mod OneWord
mod Opening
mod Paging
pub mod Parts
mod Phasing
pub mod Staying
mod StoppedVcpus
mod Unmarking
