pub mod Machines
mod Seeing
mod InOrder
mod Linking
