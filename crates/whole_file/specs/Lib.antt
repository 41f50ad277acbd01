-- Demand 2's whole-file answer.
pub mod Records
pub mod Messages
pub mod WholeFile
