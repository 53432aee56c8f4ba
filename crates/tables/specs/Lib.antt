pub mod Numbers
pub mod Streams
pub mod Rows
pub mod Core
pub mod Sums
pub mod Replies
