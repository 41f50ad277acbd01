-- The one statement.
pub mod Worked
