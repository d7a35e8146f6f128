pub mod Acquiring
pub mod Completing
pub mod Courses
pub mod Giving
pub mod Tables
pub mod Unwinding
pub mod Serving
