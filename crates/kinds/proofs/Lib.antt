pub mod Arms
pub mod Lookup
pub mod ByByte
