pub mod Facts
pub mod Kinds
