-- What the contracts of `build` cite.
pub mod Messages
pub mod Building
