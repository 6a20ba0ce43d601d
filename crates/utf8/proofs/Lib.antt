pub mod Ranges
pub mod Table
pub mod Pieces
pub mod Grammar
pub mod States
pub mod Ascii
pub mod Worked
