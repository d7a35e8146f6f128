pub mod Asking
pub mod Coming
pub mod Course
pub mod Destroying
pub mod Emptying
pub mod Clearing
pub mod Hearing
pub mod Releasing
