-- Laws, in the order in which they build on each other.
pub mod Sessions
pub mod Codes
pub mod Turns
pub mod Accepts
pub mod Effects
pub mod Shown
pub mod Hearing
pub mod Onward
pub mod Stays
pub mod NoTwice
