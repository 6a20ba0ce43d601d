pub mod System
pub mod Gsa
pub mod Answer
