pub mod Bools
pub mod WhiteLaws
