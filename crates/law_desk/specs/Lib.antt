-- The statements.
pub mod Desks
