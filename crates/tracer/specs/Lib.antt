pub mod EventText
pub mod TailText
pub mod Tail
pub mod Trace
