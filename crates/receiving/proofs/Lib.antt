-- Laws that belong to no one function, in the order in which they build on each other.
pub mod Few
pub mod Keeping
pub mod Calling
pub mod Whole
