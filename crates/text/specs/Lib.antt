pub mod Reader
pub mod Many
pub mod Placed
pub mod Bytes
pub mod Number
pub mod Answer
pub mod Code
pub mod Value
