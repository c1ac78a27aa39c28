mod Ranks
mod Adding
mod Counted
mod Turning
mod Counting
mod Surveying
mod Marking
mod Finding
