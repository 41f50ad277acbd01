-- Laws that belong to no one function.
pub mod Digits
pub mod Room
pub mod Lives
pub mod Rows
pub mod Grants
pub mod Purge
