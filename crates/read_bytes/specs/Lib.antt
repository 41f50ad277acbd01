-- What private contracts of `read_bytes` cite.
pub mod Runs
pub mod Passes
