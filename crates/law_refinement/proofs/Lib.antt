-- Laws, in the order in which they build on each other.
pub mod Chars
pub mod Gathers
pub mod Frames
pub mod Tables
pub mod Heard
pub mod Messages
pub mod Ends
pub mod Quiet
pub mod Last
pub mod Refines
pub mod Whole
