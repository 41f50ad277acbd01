-- Laws that belong to no one function.
pub mod Numbers
pub mod Names
pub mod Cuts
pub mod Bits
pub mod Lines
pub mod Days
pub mod Examples
