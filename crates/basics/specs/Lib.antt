pub mod Duties
pub mod Texts
