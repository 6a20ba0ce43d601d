pub mod Answer
pub mod Words
pub mod Put
pub mod Table
pub mod Run
pub mod Code
pub mod Heads
