-- What the contracts of `message` cite.
pub mod Layout
pub mod Order
pub mod Rules
pub mod Passing
pub mod Fields
pub mod Contents
