-- What the contracts and the laws of `bureau_records` cite.
pub mod Pieces
pub mod Sofar
pub mod Files
