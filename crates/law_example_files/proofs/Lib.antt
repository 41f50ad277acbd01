-- The statements.
pub mod Early
pub mod Later
pub mod Long
pub mod Batch
