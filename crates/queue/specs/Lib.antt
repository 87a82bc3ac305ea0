pub mod Met
pub mod Parts
pub mod Passes
