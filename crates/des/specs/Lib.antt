-- What the contracts of `des` cite: FIPS 46-3, and below it the forms of the quick code, which no public promise names.
pub mod Tables
pub mod Des
pub mod Joined
pub mod Quick
