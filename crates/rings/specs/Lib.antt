pub mod Ring
pub mod RingSearch
pub mod Links
pub mod Shortest
pub mod Numbers
pub mod Lowest
