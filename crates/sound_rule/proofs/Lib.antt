mod RestCounts
mod RestParts
mod RunLaws
mod Halves
pub mod OwnRun
