-- What the contracts of `bench_table` cite.
pub mod Counted
