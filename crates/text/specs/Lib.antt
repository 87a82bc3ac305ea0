pub mod Span
pub mod Source
pub mod Chars
pub mod Lines
pub mod Trim
pub mod Delete
