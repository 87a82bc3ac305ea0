pub mod StreamLaws
pub mod FlowLaws
pub mod LoopLaws
pub mod RuleLaws
