pub mod Contexts
pub mod Obeying
pub mod Fewness
pub mod Held
pub mod Tried
pub mod Runs
