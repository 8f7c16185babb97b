pub mod Duties
pub mod Bools
pub mod Naturals
pub mod Lists
pub mod Texts
