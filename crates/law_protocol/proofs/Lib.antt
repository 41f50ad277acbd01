-- Laws, in the order in which they build on each other.
pub mod Good
pub mod Lengths
pub mod Shown
pub mod Second
pub mod Ends
pub mod Runs
pub mod Exists
pub mod Opened
pub mod Cutting
