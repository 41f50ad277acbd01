-- Laws, in the order in which they build on each other.
pub mod Asked
pub mod Apart
pub mod Sessions
pub mod Replies
pub mod Running
