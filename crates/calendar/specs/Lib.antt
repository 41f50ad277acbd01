-- What the contracts of `calendar` cite.
pub mod Dates
pub mod Banking
