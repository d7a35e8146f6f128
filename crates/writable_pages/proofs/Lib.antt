mod Asking
mod Got
mod Left
pub mod LeftWords
pub mod Shared
mod Taken
pub mod TakenWords
