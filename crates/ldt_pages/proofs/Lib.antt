mod Walked
mod Looks
mod Asking
mod Touched
mod Entered
