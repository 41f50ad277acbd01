-- What the laws of `law_edge` speak of.
pub mod TakenApart
pub mod BoxRuns
