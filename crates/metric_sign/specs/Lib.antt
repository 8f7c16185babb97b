pub mod Signs
