-- What private contracts of `read_records` cite.
pub mod Messages
