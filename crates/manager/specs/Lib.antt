pub mod State
pub mod Making
pub mod Tickets
pub mod Answers
pub mod Steps
