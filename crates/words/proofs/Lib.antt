pub mod Stores
pub mod Lengths
pub mod Cells
