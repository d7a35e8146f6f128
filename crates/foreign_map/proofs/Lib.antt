pub mod Admitting
pub mod Looking
pub mod Naming
pub mod Owned
pub mod Refusing
