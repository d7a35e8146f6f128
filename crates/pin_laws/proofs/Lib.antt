pub mod Lending
pub mod Looking
pub mod Unpinned
pub mod Ending
pub mod Pinning
