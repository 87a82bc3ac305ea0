mod LabelLaws
pub mod Laws
