-- Laws that belong to no one function.
pub mod Opening
pub mod Serving
