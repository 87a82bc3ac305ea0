pub mod Words
pub mod StateBytes
pub mod CodeState
pub mod StateCases
