-- What the contracts of `table` cite.
pub mod Table
pub mod Written
pub mod Decode
pub mod Stored
pub mod Tests
pub mod Named
