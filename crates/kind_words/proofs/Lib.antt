pub mod KindFacts
pub mod KindHands
pub mod KindWriting
pub mod Knowing
pub mod Leaving
pub mod RowSteps
