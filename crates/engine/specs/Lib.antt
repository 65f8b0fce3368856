pub mod Refusals
pub mod Limits
pub mod Waiting
pub mod Settling
pub mod Skims
pub mod Calls
pub mod History
pub mod Lent
