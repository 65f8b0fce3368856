pub mod Cutting
pub mod Stepping
pub mod Fielding
pub mod Counting
pub mod Spelling
