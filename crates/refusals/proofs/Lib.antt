-- Laws that belong to no one function.
pub mod Refused
pub mod Dates
pub mod Found
