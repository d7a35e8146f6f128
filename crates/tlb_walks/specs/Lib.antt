pub mod Accesses
pub mod Addresses
pub mod Asking
pub mod Dropping
pub mod Flying
pub mod Guesting
pub mod Translating
pub mod Walks
