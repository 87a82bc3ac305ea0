pub mod Count
pub mod Walk
