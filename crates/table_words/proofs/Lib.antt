pub mod EntryHands
pub mod OldHands
pub mod PinSteps
pub mod PinWords
pub mod RowSteps
pub mod Shared
pub mod Shedding
pub mod Showing
