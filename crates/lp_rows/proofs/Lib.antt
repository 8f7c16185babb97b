pub mod Completing
pub mod MadeRows
pub mod Placing
pub mod Pushing
pub mod Reckoning
pub mod RowMeaning
pub mod RowParts
pub mod Short
