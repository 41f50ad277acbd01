-- What the contracts of `cli_words` cite.
pub mod Parts
pub mod Forms
