pub mod Line
pub mod Fed
pub mod Seen
