pub mod Reason
pub mod Chain
