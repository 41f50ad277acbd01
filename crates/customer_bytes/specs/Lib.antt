-- What the contracts of `customer_bytes` cite.
pub mod Layout
pub mod Tests
