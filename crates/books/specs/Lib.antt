pub mod Boards
pub mod Meaning
pub mod Settled
pub mod Sweeps
pub mod Waking
pub mod Refusals
pub mod Joining
