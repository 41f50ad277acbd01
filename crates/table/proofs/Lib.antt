-- Laws that belong to no one function.
pub mod Places
pub mod Sound
pub mod Fits
pub mod Shapes
pub mod Encode
pub mod Decode
pub mod Stores
pub mod Turns
pub mod Names
pub mod Exact
pub mod Filled
pub mod Loaded
pub mod Looked
