pub mod Vtg
pub mod Answer
