-- What the contracts of `build_bytes` cite.
pub mod Layout
pub mod Bytes
