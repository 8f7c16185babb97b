pub mod Answers
pub mod Watching
pub mod Slopes
pub mod Terms
pub mod Following
pub mod ExampleTask
