-- Laws that belong to no one function.
pub mod Order
pub mod Places
pub mod Tests
pub mod Stamps
pub mod Laws
pub mod Kept
