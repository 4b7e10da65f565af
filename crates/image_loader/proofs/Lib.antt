pub mod Tables
pub mod LaidBytes
pub mod Answering
