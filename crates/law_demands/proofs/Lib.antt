-- The proofs of the statements, in their order.
pub mod Refusals
pub mod Accepted
pub mod Values
pub mod Judged
pub mod Seen
pub mod Stays
pub mod Ranges
pub mod Rooms
pub mod Cuts
pub mod Blanked
pub mod Passed
pub mod Second
pub mod Box
