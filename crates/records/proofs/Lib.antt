pub mod KindEquality
mod Forms
mod OneFile
mod Faults
mod InOrder
mod OneForm
mod Beginnings
mod Written
pub mod HandedOn
