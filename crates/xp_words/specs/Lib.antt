pub mod ContextWords
pub mod Entries
pub mod KindWords
pub mod Machine
pub mod PageTypes
pub mod PairStores
pub mod Places
pub mod RefWords
