pub mod FlushServes
pub mod FlushTwin
pub mod Flushed
pub mod Lasting
pub mod OwnFlush
pub mod RowSteps
pub mod Shared
