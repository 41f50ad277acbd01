-- Laws that belong to no one function.
pub mod Keys
pub mod Widths
pub mod Laws
pub mod Fields
pub mod Example
