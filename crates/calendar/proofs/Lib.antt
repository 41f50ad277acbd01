-- Laws of dates and of banking days.
pub mod Walk
pub mod Months
pub mod Days
pub mod Old
