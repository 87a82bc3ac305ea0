pub mod Seen
pub mod Remaining
pub mod Items
