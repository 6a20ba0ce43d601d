pub mod Time
pub mod Date
pub mod Position
pub mod Variation
pub mod Place
pub mod Letter
pub mod Answer
