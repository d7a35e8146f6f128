pub mod Found
pub mod Knowing
pub mod Lists
pub mod Spellings
pub mod Within
