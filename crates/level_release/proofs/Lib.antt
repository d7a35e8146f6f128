pub mod Hands
pub mod HandsKnown
pub mod HandsApart
pub mod HandsTop
pub mod HandsDead
pub mod HandsGiven
pub mod HandsOpened
pub mod HandsLowered
pub mod HandsRunning
pub mod HandsLeft
pub mod HandsRecorded
pub mod HandsNamed
mod Courses
mod CoursesRun
mod CoursesUnwound
mod Serving
mod ServingEntries
pub mod ServingRun
pub mod ServingTables
pub mod HandsUnwinding
pub mod Owning
pub mod Falling
mod Handing
pub mod Dropped
pub mod Parked
mod Requested
mod Counted
mod Taken
mod Resumed
mod Asking
pub mod Named
mod Exchanged
pub mod SettlingSteps
mod Looked
mod Lived
pub mod Answered
mod Settled
pub mod Noes
