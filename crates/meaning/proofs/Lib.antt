pub mod Cases
pub mod LentCases
pub mod Numbers
pub mod Laws
pub mod Sentences
pub mod Excluded
pub mod Collects
mod Clean
pub mod Step
mod Steps
mod Rows
mod Buffers
pub mod Plans
mod Histories
pub mod Demand3
pub mod Opens
pub mod Lent
pub mod Counts
pub mod Leaves
pub mod Chain
pub mod Kept
