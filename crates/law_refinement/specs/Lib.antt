-- What a session stands for.
pub mod Stands
