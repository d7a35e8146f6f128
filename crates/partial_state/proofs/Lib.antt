pub mod LevelFacts
pub mod StackFacts
pub mod WeightFacts
pub mod WeightSums
pub mod WorkFacts
