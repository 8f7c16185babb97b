pub mod Facts
pub mod Verdicts
pub mod Following
pub mod Passing
pub mod Laws
