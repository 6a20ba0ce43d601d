pub mod Refused
pub mod Types
pub mod Checksum
pub mod Digits
pub mod Frame
pub mod Code
pub mod Answer
