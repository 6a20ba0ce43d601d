pub mod Calculated
pub mod Answer
