pub mod Stream
pub mod Flow
pub mod Loop
