pub mod Decimal
pub mod Plain
pub mod Places
pub mod Code
pub mod Answer
pub mod Bits
