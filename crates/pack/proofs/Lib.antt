pub mod Examples
pub mod Greedy
pub mod Rows
pub mod Few
