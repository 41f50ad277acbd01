-- Laws that belong to no one function.
pub mod Fresh
pub mod Wanted
