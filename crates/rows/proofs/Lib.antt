pub mod Keys
pub mod Fit
pub mod Row
pub mod Worked
