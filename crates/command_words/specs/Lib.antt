pub mod Grammar
pub mod Values
pub mod Requests
pub mod Rows
pub mod Forms
