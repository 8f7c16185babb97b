pub mod Comparing
pub mod Faulting
pub mod Laws
pub mod MadeRows
pub mod MadeTasks
pub mod Programs
pub mod StepRows
pub mod Terms
