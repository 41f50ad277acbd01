-- Small files and their answers.
pub mod Files
