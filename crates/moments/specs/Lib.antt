pub mod Cuts
pub mod Ways
pub mod Onward
pub mod Vectors
pub mod Signs
pub mod Amounts
pub mod Stretches
pub mod Flows
