pub mod Seen
pub mod Noting
pub mod Matching
pub mod Recorded
