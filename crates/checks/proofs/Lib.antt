-- Laws that belong to no one function.
pub mod Order
pub mod Parts
pub mod Tables
pub mod Faults
