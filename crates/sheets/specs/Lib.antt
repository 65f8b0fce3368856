pub mod Faults
pub mod Titles
pub mod Outlines
