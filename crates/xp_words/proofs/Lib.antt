pub mod ContextLaws
pub mod EntryLaws
pub mod Joining
pub mod KindLaws
pub mod PlaceLaws
pub mod RefLaws
pub mod Shared
