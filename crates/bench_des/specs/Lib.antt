-- What the contracts of `bench_des` cite.
pub mod Again
