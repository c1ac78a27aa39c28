pub mod Record
pub mod Failure
pub mod Refusal
pub mod Reading
pub mod Writing
