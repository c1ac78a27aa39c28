mod Zeros
pub mod Places
mod Layouts
pub mod Linked
mod Sendings
mod Made
