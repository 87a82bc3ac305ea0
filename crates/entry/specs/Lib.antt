pub mod Served
pub mod Ended
pub mod Room
