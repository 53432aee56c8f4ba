pub mod Below
pub mod Paths
pub mod Refusals
pub mod Reports
pub mod Control
pub mod Scheduling
