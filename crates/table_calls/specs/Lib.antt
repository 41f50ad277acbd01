-- What the contracts of `table_calls` cite.
pub mod Calls
pub mod Promises
