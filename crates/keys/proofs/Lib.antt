-- Laws that belong to no one function.
pub mod Odd
pub mod Folds
pub mod Laws
pub mod Making
