pub mod Counter
pub mod HowMany
pub mod Marks
pub mod Survey
pub mod Turns
pub mod Looked
