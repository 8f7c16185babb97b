pub mod Comments
pub mod Runs
pub mod Lists
pub mod Token
pub mod LexFault
pub mod Scan
pub mod Forms
