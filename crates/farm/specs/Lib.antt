pub mod Accounts
pub mod Events
pub mod Hosts
pub mod Words
