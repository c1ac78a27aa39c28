pub mod Vectors
pub mod Turns
pub mod Rows
pub mod Steps
pub mod Ordering
pub mod Asked
