pub mod Acting
pub mod Copying
pub mod Dealing
pub mod Gathering
pub mod OwnSteps
pub mod Sharing
