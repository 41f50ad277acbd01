-- What the contracts of `acceptance` cite.
pub mod Stamps
pub mod Grants
pub mod Steps
