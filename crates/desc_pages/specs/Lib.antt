pub mod Descriptors
pub mod Fixing
pub mod Gdt
pub mod Ldt
pub mod Names
pub mod Pages
