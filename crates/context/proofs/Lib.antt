pub mod Fewness
pub mod Obeying
pub mod Keeping
pub mod Starting
pub mod Running
