pub mod Counting
pub mod Sizes
pub mod Amounting
pub mod Masking
pub mod Texting
