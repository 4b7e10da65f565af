pub mod Names
pub mod Assignment
pub mod Faults
pub mod PlanFile
pub mod Planning
pub mod Shown
pub mod Document
pub mod Split
