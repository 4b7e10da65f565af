mod Packed
pub mod Merging
mod Rests
mod Logs
