pub mod Grammar
pub mod Read
pub mod Asked
pub mod One
