-- `paths::modifier::modifiers` meets its contract. Assumes nothing.
use Rattle.steps.proofs.Rules.{byte_of, facts_of, eaten, eaten_not}
use Rattle.paths.specs.Attribute.{modifiers}
use Rattle.paths.proofs.modifier.modifiers.Goals as goal

pub returns-in-Some : goal.returns-in-Some
unfolding modifiers byte_of facts_of
returns-in-Some c = eaten _ _ _ c.eat.ensures c.in-Some.is c.modifier_list.ensures

pub returns-in_default : goal.returns-in_default
unfolding modifiers byte_of facts_of
returns-in_default c = eaten_not _ _ _ c.eat.ensures c.in_default.not-Some
