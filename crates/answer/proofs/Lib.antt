pub mod Worked
pub mod OneByte
pub mod Numbered
pub mod Number
pub mod Nines
pub mod Signed
