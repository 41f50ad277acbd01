-- What the contracts of `keys` cite.
pub mod Parity
pub mod Keys
pub mod Maker
