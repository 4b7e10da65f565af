pub mod Logs
pub mod Rule
pub mod Passes
pub mod Steps
pub mod Gathered
pub mod Buses
pub mod Histories
