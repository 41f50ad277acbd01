-- What the contracts of `reply` cite.
pub mod Reply
