pub mod Talker
pub mod Gsv
pub mod Answer
