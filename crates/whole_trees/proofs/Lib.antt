pub mod Below
pub mod Tops
pub mod Moments
pub mod Behind
pub mod Hands
pub mod Typing
pub mod Pinning
pub mod Basing
