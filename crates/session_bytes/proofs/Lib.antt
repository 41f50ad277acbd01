-- Laws, in the order in which they build on each other.
pub mod Fields
pub mod Tests
pub mod Laws
pub mod Any
