-- What the contracts of `session` cite.
pub mod Lines
pub mod Events
pub mod Machine
pub mod Ranges
pub mod Told
