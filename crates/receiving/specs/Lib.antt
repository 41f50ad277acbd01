-- What receiving a whole file gives, and what is kept of it.
pub mod Receiving
pub mod Steps
