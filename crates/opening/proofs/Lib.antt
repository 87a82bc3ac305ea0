mod LevelLaws
mod WalkLaws
mod GoodLaws
mod OpenLaws
mod NodeLaws
mod PeekLaws
pub mod Laws
mod Cases
