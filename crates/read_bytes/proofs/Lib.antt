-- Laws that belong to no one function.
pub mod Plainly
pub mod Told
pub mod Steps
pub mod Scans
pub mod Passing
