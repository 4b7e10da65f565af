pub mod Solo
pub mod Rising
pub mod Standing
pub mod Playing
pub mod End
pub mod Begun
pub mod Room
pub mod Engines
