-- What the contracts of `session_bytes` cite.
pub mod Names
pub mod Session
