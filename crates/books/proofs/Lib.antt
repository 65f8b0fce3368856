pub mod Places
pub mod Wakes
pub mod Joins
pub mod Filters
