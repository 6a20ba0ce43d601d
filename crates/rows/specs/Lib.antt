pub mod Key
pub mod Line
pub mod Leave
