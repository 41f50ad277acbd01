-- The statements.
pub mod Premises
pub mod Accepted
