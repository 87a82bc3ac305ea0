mod RuleLaws
mod WholeLaws
pub mod Tame
pub mod TameSteps
pub mod TameRules
pub mod TameParts
pub mod TameExprs
