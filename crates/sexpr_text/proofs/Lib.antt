pub mod Places
pub mod Heights
pub mod Spans
pub mod Faults
pub mod Scanning
pub mod Joining
pub mod Unique
pub mod NumberTokens
