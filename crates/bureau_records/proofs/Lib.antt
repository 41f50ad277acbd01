-- Laws that belong to no one function.
pub mod Hearing
pub mod Cuts
pub mod Whole
