-- What the contracts of `notice` cite.
pub mod Codes
pub mod Rows
