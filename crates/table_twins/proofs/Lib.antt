pub mod Sharing
pub mod Referring
pub mod Kinding
pub mod Typing
pub mod Waiting
pub mod Entering
