pub mod Xor
pub mod Told
pub mod Found
