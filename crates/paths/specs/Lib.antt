pub mod Path
pub mod Attribute
