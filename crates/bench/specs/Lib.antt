pub mod Packed
pub mod History
pub mod Repeated
