pub mod Steps
pub mod Clock
pub mod CalendarDays
pub mod Gregorian
pub mod Never
pub mod Number
