pub mod AreRegsOf
pub mod IsLatest
