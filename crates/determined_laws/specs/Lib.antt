pub mod Courses
pub mod Forks
