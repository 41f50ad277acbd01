-- The seven calls as definitions.
pub mod Reading
pub mod Calls
pub mod Promises
