-- What the contracts of `desk_edge` cite.
pub mod Calls
pub mod Builder
