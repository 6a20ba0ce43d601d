pub mod Rmc
pub mod Answer
