-- What the contracts of `cli_days` cite.
pub mod Far
