pub mod Hosts
pub mod Widths
