-- What the contracts of `text` cite.
pub mod Characters
pub mod Numbers
pub mod Letters
