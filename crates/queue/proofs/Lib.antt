pub mod StepLaws
pub mod PassLaws
pub mod ReleaseLaws
pub mod GatherLaws
pub mod OneLaws
