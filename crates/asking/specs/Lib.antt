pub mod Shown
pub mod Promise
pub mod Steps
pub mod Decided
