pub mod Sounding
pub mod Choosing
pub mod Taking
pub mod Behind
pub mod Claiming
pub mod Coming
pub mod Returning
pub mod Extending
