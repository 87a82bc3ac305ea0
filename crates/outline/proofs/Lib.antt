pub mod Passed
pub mod Replayed
