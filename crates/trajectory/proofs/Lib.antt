pub mod Covering
pub mod FirstStates
pub mod Following
pub mod Heights
pub mod Possible
pub mod Times
pub mod Truths
pub mod Verdicts
