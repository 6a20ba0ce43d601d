pub mod Answer
pub mod Totals
pub mod Lend
pub mod Code
