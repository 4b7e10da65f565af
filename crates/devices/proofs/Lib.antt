pub mod Replays
mod Waiting
mod Forms
