-- Laws that belong to no one function.
pub mod Made
pub mod Building
pub mod BatchBack
