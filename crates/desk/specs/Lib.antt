-- What the contracts of `desk` cite.
pub mod Held
pub mod Desk
pub mod Sent
