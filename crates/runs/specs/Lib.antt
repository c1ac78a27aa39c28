pub mod Shape
pub mod Run
pub mod Moment
pub mod Model
pub mod Making
