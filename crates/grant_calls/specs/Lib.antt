pub mod Grants
pub mod Polls
