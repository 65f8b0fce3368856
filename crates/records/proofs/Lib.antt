pub mod Ranging
pub mod Naming
pub mod Taking
pub mod Going
pub mod Summing
pub mod Pairing
pub mod Meaning
