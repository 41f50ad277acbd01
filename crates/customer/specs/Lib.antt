-- What the contracts of `customer` cite.
pub mod Customer
pub mod Settings
