-- Laws that belong to no one function.
pub mod Judged
pub mod Keeps
pub mod Laws
pub mod Leaves
