pub mod Stretches
pub mod Fairness
