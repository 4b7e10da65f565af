pub mod Covering
pub mod LittleEndian
pub mod Standing
pub mod Dealing
pub mod Replays
pub mod Laying
pub mod Whole
