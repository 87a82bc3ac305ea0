pub mod RecordLaws
mod TableLaws
pub mod CursorLaws
pub mod PeekLaws
pub mod Laws
mod Cases
