mod Chaining
pub mod Closing
mod Composing
pub mod Finding
mod Firsts
pub mod Heads
mod Hinting
mod Lasting
pub mod Listing
mod Lone
mod Losing
mod Outcomes
mod Passing
pub mod Plainly
pub mod Reaching
mod Refusing
pub mod Rows
mod Running
mod Scrubbing
pub mod Serving
mod Setting
pub mod Shared
mod Sizes
mod Stopping
pub mod Telling
mod Trying
mod Visiting
pub mod Waiting
