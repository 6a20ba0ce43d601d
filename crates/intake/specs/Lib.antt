pub mod Brief
pub mod Answer
pub mod Code
