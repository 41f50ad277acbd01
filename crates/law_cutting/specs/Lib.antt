-- What the laws are said of, besides the machine.
pub mod Plain
