pub mod Gga
pub mod Answer
