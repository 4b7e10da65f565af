pub mod Headers
pub mod Faults
pub mod Loading
pub mod Laying
