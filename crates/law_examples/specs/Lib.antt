-- Document 01's examples.
pub mod Bank
pub mod Examples
