pub mod Rfc3629
pub mod Utf8
pub mod Answer
