-- `patterns::pat_parts::path_if` meets its contract. Assumes nothing.
use Rattle.steps.proofs.Rules.{byte_of, facts_of, eaten, eaten_not}
use Rattle.patterns.proofs.pat_parts.path_if.Goals as goal

pub returns-in-Some : goal.returns-in-Some
unfolding byte_of facts_of
returns-in-Some c = eaten _ _ _ c.eat.ensures c.in-Some.is c.path.ensures

pub returns-in_default : goal.returns-in_default
unfolding byte_of facts_of
returns-in_default c = eaten_not _ _ _ c.eat.ensures c.in_default.not-Some
