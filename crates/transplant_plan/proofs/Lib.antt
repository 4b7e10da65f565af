mod Faults
mod Members
mod Plans
mod Printed
mod Readings
mod Engines
pub mod OfFile
pub mod Splits
pub mod Obeying
