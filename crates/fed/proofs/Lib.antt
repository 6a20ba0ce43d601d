pub mod Accepted
pub mod Counts
pub mod Handing
pub mod Groups
pub mod Entries
