pub mod Drawing
pub mod Frames
pub mod Named
pub mod Pictures
pub mod Runs
pub mod Tables
pub mod Targets
pub mod Vcpus
