-- The statements.
pub mod Rest
pub mod Demands
