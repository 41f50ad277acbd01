-- What the contracts of `digest` cite.
pub mod Mac
pub mod Kept
pub mod Running
pub mod Ranges
