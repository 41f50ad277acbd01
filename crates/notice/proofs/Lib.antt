-- Laws that belong to no one function.
pub mod Padding
pub mod Rows
pub mod Texts
