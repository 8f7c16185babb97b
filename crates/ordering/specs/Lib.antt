pub mod Along
pub mod ExampleTask
pub mod Laws
pub mod Meetings
pub mod Orderings
pub mod Refusals
