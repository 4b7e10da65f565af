pub mod Pipes
pub mod Tried
