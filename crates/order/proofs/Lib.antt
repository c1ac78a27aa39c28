pub mod Behind
mod OneMore
pub mod Pigeonhole
mod Stuck
pub mod Sizes
mod OneTurn
mod Joins
mod Rightly
pub mod OneRun
pub mod Recorded
