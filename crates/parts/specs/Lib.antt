pub mod Spaced
pub mod Sorts
pub mod Labels
pub mod Args
pub mod Leads
pub mod Heads
pub mod Lone
pub mod Links
