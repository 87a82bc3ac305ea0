-- `gaps::arms::is_block_arm` meets its contract. Assumes nothing.
use Rattle.gaps.proofs.ArmLaws.{block_body, no_body, no_inner}
use Rattle.steps.proofs.Rules.{byte_of, facts_of}
use Rattle.gaps.proofs.arms.is_block_arm.Goals as goal

pub returns-in_default : goal.returns-in_default
returns-in_default c = no_body _ _ c.last.ensures c.in_default.not-Some

pub returns-in_default-last : goal.returns-in_default-last
returns-in_default-last c = no_inner _ _ c.last.ensures c.in-Some.is c.last-2.ensures c.in_default-last.not-Some

pub returns : goal.returns
unfolding byte_of facts_of
returns c = block_body _ _ c.last.ensures c.in-Some.is c.last-2.ensures c.in-Some-last.is c.kind_at.ensures
