pub mod Gll
pub mod Answer
