-- What a caller does with a file.
pub mod Protocol
pub mod Ready
