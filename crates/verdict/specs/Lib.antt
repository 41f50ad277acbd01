-- What the contracts of `verdict` cite.
pub mod Outcomes
