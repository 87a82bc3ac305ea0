mod LayLaws
mod TakenLaws
mod ListLaws
mod ArmLaws
mod ChainLaws
mod StmtLaws
