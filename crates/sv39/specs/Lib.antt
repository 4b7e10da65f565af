pub mod IsAfter
pub mod Stage
