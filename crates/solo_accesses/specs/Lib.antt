pub mod Stale
pub mod Accesses
pub mod Walking
