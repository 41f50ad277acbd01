-- Laws that belong to no one function.
pub mod Desks
pub mod Replies
