mod Filling
mod Held
mod Asking
mod StopKinds
mod Cleared
mod Copied
