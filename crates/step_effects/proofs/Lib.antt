pub mod ActEffects
pub mod Doing
mod WordInversions
mod VcpuInversions
pub mod FrameInversions
pub mod ActInversions
mod CellInversions
pub mod MarkEffects
pub mod RunWords
