pub mod PathLaws
pub mod ModifierLaws
pub mod Cases
