pub mod Building
pub mod Holding
pub mod Joining
pub mod FirstPhase
pub mod Accepting
pub mod Sizes
