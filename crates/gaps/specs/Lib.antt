pub mod Arms
pub mod Blocks
pub mod Lines
pub mod Statements
