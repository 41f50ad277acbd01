-- Laws that belong to no one function.
pub mod Written
pub mod Known
pub mod Handed
pub mod Fits
