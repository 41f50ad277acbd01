-- The statement that no stamp is accepted twice.
pub mod History
