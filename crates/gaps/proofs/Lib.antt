mod ArmLaws
mod StatementLaws
pub mod Laws
