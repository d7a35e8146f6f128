pub mod Rounds
pub mod Stages
