pub mod AnyBelow
pub mod Estimates
pub mod Hearing
pub mod PicksInARow
pub mod Telling
