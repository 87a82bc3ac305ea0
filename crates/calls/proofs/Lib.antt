pub mod CallLaws
pub mod NodeLaws
