-- What the contracts of `refusals` cite.
pub mod Refusals
pub mod Length
pub mod Numbers
