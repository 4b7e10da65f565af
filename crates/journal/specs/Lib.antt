pub mod Log
pub mod Packing
pub mod Keeping
pub mod Merged
pub mod Rests
