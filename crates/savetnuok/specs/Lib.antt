pub mod Exported
pub mod Session
pub mod Why
