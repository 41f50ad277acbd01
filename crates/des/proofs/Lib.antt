-- Laws that belong to no one function.
pub mod Laws
pub mod Boxes
pub mod Linear
pub mod Networks
pub mod Keys
pub mod Inverse
pub mod Joined
