pub mod Records
pub mod Table
pub mod Cursor
pub mod Nodes
