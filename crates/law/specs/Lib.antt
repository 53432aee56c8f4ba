pub mod Effects
pub mod Slots
pub mod History
pub mod Law
pub mod Runs
