-- What the contracts of `desk_bytes` cite.
pub mod Layout
pub mod Bytes
