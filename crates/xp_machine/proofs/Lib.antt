pub mod Moving
pub mod Fresh
mod Walking
pub mod Boarding
mod Turning
mod Asking
pub mod Starting
pub mod Reaching
mod Replaying
mod Statuses
mod Pacing
mod Imaging
