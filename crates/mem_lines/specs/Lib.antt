pub mod Bank
pub mod Steps
