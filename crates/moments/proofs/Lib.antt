mod Decided
pub mod Between
pub mod Laws
pub mod GoingOn
pub mod OnAWay
pub mod Lowest
pub mod Trails
pub mod Put
pub mod Totals
mod Best
pub mod Extent
pub mod Avoiding
pub mod Agreeing
