-- Laws, in the order in which they build on each other.
pub mod Cuts
pub mod Plain
pub mod Leaves
pub mod Stays
pub mod Keeps
pub mod Ranged
pub mod Tables
pub mod Counted
