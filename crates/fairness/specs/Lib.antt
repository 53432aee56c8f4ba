pub mod Events
pub mod Fair
