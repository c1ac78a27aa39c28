mod Counts
pub mod Fronts
