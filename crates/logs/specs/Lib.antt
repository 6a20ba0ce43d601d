pub mod Step
pub mod Walk
pub mod Answer
pub mod Code
pub mod Told
pub mod Totals
