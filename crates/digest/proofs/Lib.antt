-- Laws that belong to no one function.
pub mod Folds
pub mod Blocks
pub mod Macs
pub mod Strips
pub mod Batches
pub mod Ranges
