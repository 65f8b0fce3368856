pub mod Faults
pub mod Parts
pub mod Lines
pub mod Fields
pub mod Numbers
pub mod Names
