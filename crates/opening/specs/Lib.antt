pub mod Check
pub mod Good
pub mod Walk
pub mod Opening
pub mod Nodes
