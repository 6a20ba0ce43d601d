pub mod Behind
pub mod Whole
