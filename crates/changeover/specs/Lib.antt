-- What the contracts of `changeover` cite.
pub mod Held
pub mod Changes
