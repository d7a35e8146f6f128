pub mod Given
pub mod Unlocking
pub mod Cells
pub mod Taking
pub mod Demanding
pub mod Putting
pub mod Releasing
pub mod Going
pub mod Exchanging
pub mod Alone
mod Locking
