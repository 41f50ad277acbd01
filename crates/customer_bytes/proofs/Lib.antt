-- Laws that belong to no one function.
pub mod Laws
pub mod Days
pub mod Stamps
pub mod Zeros
