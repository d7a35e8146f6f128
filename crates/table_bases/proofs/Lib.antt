mod Storing
pub mod Requests
pub mod Behind
mod Installed
mod Clocked
mod Acquired
