-- Laws that belong to no one function.
pub mod Base
pub mod Laws
pub mod Lists
pub mod Bases
