pub mod LeftAlone
pub mod Replays
