mod WordLaws
mod StateLaws
pub mod BackLaws
pub mod StateCases
