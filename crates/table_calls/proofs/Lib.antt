-- Laws that belong to no one function.
pub mod Rewritten
pub mod Customers
pub mod Served
pub mod Laws
