pub mod Goals
pub mod Metrics
pub mod Entries
pub mod TimeCosts
pub mod Problems
pub mod Readings
pub mod Laws
