-- Laws, in the order in which they build on each other.
pub mod Form
pub mod Messages
pub mod Passes
pub mod Granted
pub mod Accepted
pub mod Kept
pub mod Ends
pub mod Findings
pub mod Step
pub mod Back
pub mod Sent
pub mod Called
pub mod Files
pub mod Boxes
