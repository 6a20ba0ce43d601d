pub mod Digits
pub mod Texts
pub mod Plain
pub mod Hex
pub mod Answered
pub mod Line
